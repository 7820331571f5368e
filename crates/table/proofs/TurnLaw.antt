-- The walk at a place where no term is to come, or too few words are left; and what is answered of a term.
use mathlib.Core.Path.{◌≡◌, refl, sym, ◌∙◌, ap, subst}
use mathlib.Core.Bool.{Bool, true, false}
use mathlib.Core.Option.{Option, none, some}
use mathlib.Core.List.{List, [], ◌∷◌}
use Prim.Native.Nat.{ℕ, suc, ◌+◌, ◌-◌, ◌≤◌, ◌<◌}
use native.Mathlib.Omega.{arith}
use lib.IntN.{ℤ, pos}
use lib.ListN.{length, drop, get_or, length-drop}
use lib.Seq.{drop-cons}
use borrow.Author.Tests.{le-leb, lt-leb}
use Rattle.std.specs.Prelude.{Some, None}
use Rattle.minuska.specs.Basics.{provided, present}
use Rattle.minuska.specs.Computed.Read.{read_term}
use Rattle.table.specs.Level.{Level}
use Rattle.table.specs.Walk.{Walked, walk, within, in_order, part_walk, PartContract}
use Rattle.table.specs.Number.{answered}

-- ---- the words at a place
pub two_words : (s : List ℤ) (i : ℕ) → i + 2 ≤ length s → drop i s ≡ get_or s i (pos 0) ∷ get_or s (i + 1) (pos 0) ∷ drop (i + 2) s
two_words s i h =
    let c : suc i ≡ i + 1 = omega arith in
    let d : suc (suc i) ≡ i + 2 = omega arith in
    drop-cons s i (pos 0) (omega arith) ∙ ap (λ (x : List ℤ). get_or s i (pos 0) ∷ x) (drop-cons s (suc i) (pos 0) (omega arith) ∙ (ap (λ (n : ℕ). get_or s n (pos 0) ∷ drop (suc (suc i)) s) c ∙ ap (λ (n : ℕ). get_or s (i + 1) (pos 0) ∷ drop n s) d))

pub walk_short : (ws : List ℤ) (at : ℕ) (l : Level) (ls : List Level) (seen : List Bool) → length ws < 2 → walk ws at (l ∷ ls) seen ≡ record { end = none; seen = seen }
walk_short [] at l ls seen h = refl
walk_short (t ∷ []) at l ls seen h = refl
walk_short (t ∷ d ∷ ws) at l ls seen h = absurd (let f : ⊥ = omega arith in f)

pub walk_done : (ws : List ℤ) (at : ℕ) (seen : List Bool) → walk ws at [] seen ≡ record { end = some at; seen = seen }
walk_done [] at seen = refl
walk_done (t ∷ []) at seen = refl
walk_done (t ∷ d ∷ ws) at seen = refl

-- ---- what is answered of a term
module _ (ws : List ℤ) (at : ℕ) (kind : Level) (seen seen' : List Bool) where
  ends : (o : Option ℕ) → part_walk ws at kind seen ≡ record { end = o; seen = seen' } → PartContract ws at kind seen seen' (answered (in_order ws at (within at o)))
  ends o e = record { answer = sym (ap (λ (w : Walked). answered (in_order ws at (within at w.end))) e); leaves = sym (ap (λ (w : Walked). w.seen) e) }

  pub part_bad : part_walk ws at kind seen ≡ record { end = none; seen = seen' } → PartContract ws at kind seen seen' None
  part_bad e = ends none e

  module _ (e : ℕ) (q : part_walk ws at kind seen ≡ record { end = some e; seen = seen' }) where
    pub part_large : 1024 < e - at → PartContract ws at kind seen seen' None
    part_large h = subst (λ (b : Bool). PartContract ws at kind seen seen' (answered (in_order ws at (provided b e)))) (lt-leb (e - at) 1024 h) (ends (some e) q)

    module _ (h : e - at ≤ 1024) where
      short : PartContract ws at kind seen seen' (answered (provided (present (read_term (drop at ws))) e))
      short = subst (λ (b : Bool). PartContract ws at kind seen seen' (answered (in_order ws at (provided b e)))) (le-leb (e - at) 1024 h) (ends (some e) q)

      pub part_good : present (read_term (drop at ws)) ≡ true → PartContract ws at kind seen seen' (Some e)
      part_good p = subst (λ (b : Bool). PartContract ws at kind seen seen' (answered (provided b e))) p short

      pub part_unordered : present (read_term (drop at ws)) ≡ false → PartContract ws at kind seen seen' None
      part_unordered p = subst (λ (b : Bool). PartContract ws at kind seen seen' (answered (provided b e))) p short

pub part_outside : (ws : List ℤ) (at : ℕ) (kind : Level) (seen : List Bool) → length ws < at → PartContract ws at kind seen seen None
unfolding part_walk
part_outside ws at kind seen h = part_bad ws at kind seen seen (walk_short (drop at ws) at kind [] seen (simp length-drop (omega arith)))
