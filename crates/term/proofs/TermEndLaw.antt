-- One turn of a walk over words: the extent of the terms at a place of a slice, from the two words there. Over any test of labels.
use mathlib.Core.Path.{◌≡◌, refl, sym, ◌∙◌, ap}
use mathlib.Core.Bool.{Bool}
use mathlib.Core.Option.{Option, none, some}
use mathlib.Core.List.{List, [], ◌∷◌}
use Prim.Native.Nat.{ℕ, zero, suc, ◌+◌, ◌-◌, ◌*◌, ◌≤◌, ◌<◌}
use native.Mathlib.Nat.{add-zero}
use native.Mathlib.Numerals.{add-one, add-two}
use native.Mathlib.Omega.{arith}
use lib.IntN.{ℤ, pos}
use lib.ListN.{length, drop, get_or, length-drop}
use lib.Seq.{drop-cons}
use mir.Facts.{to_z-of_z}
use mir.Syntax.{w64}
use mir.Val.{SFits, of_z, to_z}
use Rattle.minuska.proofs.Tests.{came}
use Rattle.minuska.specs.Basics.{◌>>=◌}
use Rattle.minuska.specs.Term.{Label}
use Rattle.term.specs.TermEnd.{ground_label, ground_terms_end, children_if, extent, place_of, TermsAt, TermsEnd, WalkedNode}
use Rattle.std.specs.Prelude.{Some, None}

-- ---- the shut name, opened
pub ground_terms_are : (ws : List ℤ) (at k : ℕ) → ground_terms_end ws at k ≡ place_of at (extent ground_label (drop at ws) k)
unfolding ground_terms_end
ground_terms_are ws at k = refl

-- ---- an answer, and what it came from
pub place_some : (at e : ℕ) (o : Option ℕ) → place_of at o ≡ Some e → (m : ℕ) × (o ≡ some m) × (at + m ≡ e)
place_some at e none p = absurd (let z : ◌≡◌ {A = ℕ} 0 1 = cc in let f : ⊥ = omega arith in f)
place_some at e (some m) p = (m, refl, (let q : at + m ≡ e = cc in q))

-- ---- a list of words
module _ (p : Label → Bool) where
  pub extent_zero : (ws : List ℤ) → extent p ws 0 ≡ some 0
  extent_zero [] = refl
  extent_zero (t ∷ []) = refl
  extent_zero (t ∷ d ∷ ws) = refl

  -- each term takes two words at least, and none that is not there
  pub extent_long : (ws : List ℤ) (k m : ℕ) → extent p ws k ≡ some m → (2 * k ≤ m) × (m ≤ length ws)
  extent_long [] zero m e = let q : 0 ≡ m = cc in (omega arith, omega arith)
  extent_long [] (suc k) m e = absurd (let z : ◌≡◌ {A = ℕ} 0 1 = cc in let f : ⊥ = omega arith in f)
  extent_long (t ∷ []) zero m e = let q : 0 ≡ m = cc in (omega arith, omega arith)
  extent_long (t ∷ []) (suc k) m e = absurd (let z : ◌≡◌ {A = ℕ} 0 1 = cc in let f : ⊥ = omega arith in f)
  extent_long (t ∷ d ∷ ws) zero m e = let q : 0 ≡ m = cc in (omega arith, omega arith)
  extent_long (t ∷ d ∷ ws) (suc k) m e =
      let c = came (children_if p t d) (λ n. extent p ws (n + k) >>= λ x. some (2 + x)) m e in
      let b = came (extent p ws (c.0 + k)) (λ x. some (2 + x)) m c.2 in
      let q : 2 + b.0 ≡ m = let s = b.2 in cc in
      let i = extent_long ws (c.0 + k) b.0 b.1 in
      (omega arith, omega arith)

  pub extent_short : (ws : List ℤ) (k : ℕ) → length ws < 2 * k → extent p ws k ≡ none
  extent_short ws k h = pick (extent p ws k) refl
    where
      pick : (o : Option ℕ) → extent p ws k ≡ o → o ≡ none
      pick none e = refl
      pick (some m) e = absurd (let l = extent_long ws k m e in let f : ⊥ = omega arith in f)

-- ---- a place of a slice
two_words : (s : List ℤ) (i : ℕ) → i + 2 ≤ length s → drop i s ≡ get_or s i (pos 0) ∷ get_or s (i + 1) (pos 0) ∷ drop (i + 2) s
two_words s i h =
    rw (add-one i, add-two i)
    (drop-cons s i (pos 0) (omega arith) ∙ ap (λ (l : List ℤ). get_or s i (pos 0) ∷ l) (drop-cons s (suc i) (pos 0) (omega arith)))

module _ (p : Label → Bool) (s : List ℤ) (i k : ℕ) where
  -- no term is left
  pub place_done : k ≡ 0 → place_of i (extent p (drop i s) k) ≡ Some i
  place_done h = ap (λ (n : ℕ). place_of i (extent p (drop i s) n)) h ∙ (ap (place_of i) (extent_zero p (drop i s)) ∙ ap Some (add-zero i))

  -- too few words are left
  pub place_short : length s - i < 2 * k → place_of i (extent p (drop i s) k) ≡ None
  place_short h = ap (place_of i) (extent_short p (drop i s) k (simp length-drop (omega arith)))

  module _ (h : i + 2 ≤ length s) (j : 0 < k) where
    one_more : extent p (drop i s) k ≡ (children_if p (get_or s i (pos 0)) (get_or s (i + 1) (pos 0)) >>= λ n. extent p (drop (i + 2) s) (n + (k - 1)) >>= λ m. some (2 + m))
    one_more =
        let e : k ≡ suc (k - 1) = omega arith in
        ap (λ (w : List ℤ). extent p w k) (two_words s i h) ∙ ap (extent p (get_or s i (pos 0) ∷ get_or s (i + 1) (pos 0) ∷ drop (i + 2) s)) e

    onward : Option ℕ → Option ℕ
    onward o = o >>= λ n. extent p (drop (i + 2) s) (n + (k - 1)) >>= λ m. some (2 + m)

    pub place_bad : children_if p (get_or s i (pos 0)) (get_or s (i + 1) (pos 0)) ≡ none → place_of i (extent p (drop i s) k) ≡ None
    unfolding onward
    place_bad e = ap (place_of i) (one_more ∙ ap onward e)

    shift : (o : Option ℕ) → place_of i (o >>= λ m. some (2 + m)) ≡ place_of (i + 2) o
    shift none = refl
    shift (some m) = let e : i + (2 + m) ≡ i + 2 + m = omega arith in ap Some e

    pub place_on : (m : ℕ) → children_if p (get_or s i (pos 0)) (get_or s (i + 1) (pos 0)) ≡ some m → place_of i (extent p (drop i s) k) ≡ place_of (i + 2) (extent p (drop (i + 2) s) (k - 1 + m))
    unfolding onward
    place_on m e =
        let q : m + (k - 1) ≡ k - 1 + m = omega arith in
        ap (place_of i) (one_more ∙ ap onward e) ∙
        (shift (extent p (drop (i + 2) s) (m + (k - 1))) ∙ ap (λ (n : ℕ). place_of (i + 2) (extent p (drop (i + 2) s) n)) q)

  -- where the terms end at e, a node stands at i, and the rest ends at e too
  pub record Turn (e : ℕ) : Type 0 where
    pub room : i + 2 ≤ length s
    pub count : ℕ
    pub children : children_if p (get_or s i (pos 0)) (get_or s (i + 1) (pos 0)) ≡ some count
    pub rest : place_of (i + 2) (extent p (drop (i + 2) s) (k - 1 + count)) ≡ Some e
    pub few : k - 1 + count ≤ length s

  pub place_turn : (e : ℕ) → 0 < k → place_of i (extent p (drop i s) k) ≡ Some e → Turn e
  place_turn e j q =
      let a = place_some i e (extent p (drop i s) k) q in
      let b = extent_long p (drop i s) k a.0 a.1 in
      let l = length-drop i s in
      let room : i + 2 ≤ length s = omega arith in
      pick room (children_if p (get_or s i (pos 0)) (get_or s (i + 1) (pos 0))) refl
    where
      pick : i + 2 ≤ length s → (o : Option ℕ) → children_if p (get_or s i (pos 0)) (get_or s (i + 1) (pos 0)) ≡ o → Turn e
      pick room none c = absurd (let x = place_bad room j c in let z : ◌≡◌ {A = ℕ} 0 1 = cc in let f : ⊥ = omega arith in f)
      pick room (some m) c =
          let on = sym (place_on room j m c) ∙ q in
          let a = place_some (i + 2) e (extent p (drop (i + 2) s) (k - 1 + m)) on in
          let b = extent_long p (drop (i + 2) s) (k - 1 + m) a.0 a.1 in
          let l = length-drop (i + 2) s in
          record { room = room; count = m; children = c; rest = on; few = omega arith }

-- ---- a walk over so many terms: k of them are left to read at i, and they end where all do
pub record Walking (p : Label → Bool) (s : List ℤ) (at count i k : ℕ) : Type 0 where
  pub same : place_of at (extent p (drop at s) count) ≡ place_of i (extent p (drop i s) k)

module _ {p : Label → Bool} {s : List ℤ} {at count i k : ℕ} (w : Walking p s at count i k) where
  pub walking_end : k ≡ 0 → TermsEnd p s at count i
  walking_end z = record { is = w.same ∙ place_done p s i k z }

  pub walking_short : length s - i < 2 * k → place_of at (extent p (drop at s) count) ≡ None
  walking_short h = w.same ∙ place_short p s i k h

  pub walking_bad : i + 2 ≤ length s → 0 < k → children_if p (get_or s i (pos 0)) (get_or s (i + 1) (pos 0)) ≡ none → place_of at (extent p (drop at s) count) ≡ None
  walking_bad h j e = w.same ∙ place_bad p s i k h j e

  pub walking_next : i + 2 ≤ length s → 0 < k → (m : ℕ) → children_if p (get_or s i (pos 0)) (get_or s (i + 1) (pos 0)) ≡ some m → Walking p s at count (i + 2) (k - 1 + m)
  walking_next h j m e = record { same = w.same ∙ place_on p s i k h j m e }

  -- where they end somewhere
  module _ (a : TermsAt p s at count) (j : 0 < k) where
    turn : Turn p s i k a.end
    turn = place_turn p s i k a.end j (sym w.same ∙ a.ends)

    -- a node stands at i
    pub walking_node : WalkedNode p (get_or s i (pos 0)) (get_or s (i + 1) (pos 0))
    walking_node = record { count = turn.count; is = turn.children }

    -- and the walk goes on behind it
    module _ (m : ℕ) (e : children_if p (get_or s i (pos 0)) (get_or s (i + 1) (pos 0)) ≡ some m) where
      pub walking_few : k - 1 + m ≤ length s
      walking_few = let c : turn.count ≡ m = (let t = turn.children in cc) in let f = turn.few in omega arith

      pub walking_on : Walking p s at count (i + 2) (k - 1 + m)
      walking_on = walking_next turn.room j m e

-- ---- the same of the two words as they are stored, for the loops that walk
module _ {p : Label → Bool} {s : List ℤ} {at count i k : ℕ} (w : Walking p s at count i k) (a : TermsAt p s at count) (j : 0 < k) (t : SFits w64 (get_or s i (pos 0))) (d : SFits w64 (get_or s (i + 1) (pos 0))) where
  pub stored_node : WalkedNode p (to_z w64 (of_z w64 (get_or s i (pos 0)))) (to_z w64 (of_z w64 (get_or s (i + 1) (pos 0))))
  stored_node = rw (to_z-of_z t, to_z-of_z d) (walking_node w a j)

  module _ {m : ℕ} (e : children_if p (to_z w64 (of_z w64 (get_or s i (pos 0)))) (to_z w64 (of_z w64 (get_or s (i + 1) (pos 0)))) ≡ some m) where
    said : children_if p (get_or s i (pos 0)) (get_or s (i + 1) (pos 0)) ≡ some m
    said = rw (to_z-of_z t, to_z-of_z d) at e

    pub stored_few : k - 1 + m ≤ length s
    stored_few = walking_few w a j m said

    pub stored_on : Walking p s at count (i + 2) (k - 1 + m)
    stored_on = walking_on w a j m said

zero_plus : (m : ℕ) → 0 + m ≡ m
zero_plus m = omega arith

-- ---- a term ends behind its node if it has no children, and else where they do
module _ {p : Label → Bool} {s : List ℤ} {at : ℕ} (a : TermsAt p s at 1) (t : SFits w64 (get_or s at (pos 0))) (d : SFits w64 (get_or s (at + 1) (pos 0))) where
  abbrev start : Walking p s at 1 at 1
  start = record { same = refl }

  pub root_node : WalkedNode p (to_z w64 (of_z w64 (get_or s at (pos 0)))) (to_z w64 (of_z w64 (get_or s (at + 1) (pos 0))))
  root_node = stored_node start a (omega arith) t d

  pub root_room : at + 2 ≤ length s
  root_room = (turn start a (omega arith)).room

  module _ {m : ℕ} (e : children_if p (to_z w64 (of_z w64 (get_or s at (pos 0)))) (to_z w64 (of_z w64 (get_or s (at + 1) (pos 0)))) ≡ some m) where
    behind : Walking p s at 1 (at + 2) m
    behind = rw⁻¹ (zero_plus m) (stored_on start a (omega arith) t d e)

    pub ends_behind : m ≡ 0 → TermsEnd p s at 1 (at + 2)
    ends_behind z = walking_end behind z

    pub children_at_lem : TermsAt p s (at + 2) m
    children_at_lem = record { end = a.end; ends = sym behind.same ∙ a.ends }

    pub ends_with : {r : ℕ} → TermsEnd p s (at + 2) m r → TermsEnd p s at 1 r
    ends_with f = record { is = behind.same ∙ f.is }
