-- A walk below no left leaves the flags as they are.
use mathlib.Core.Path.{◌≡◌, refl, sym, ◌∙◌, ap, subst}
use mathlib.Core.Bool.{Bool, true, false, cond}
use mathlib.Core.List.{List, [], ◌∷◌, ◌++◌}
use Prim.Native.Nat.{ℕ, zero, suc, ◌+◌}
use lib.IntN.{ℤ}
use lib.ListN.{drop, get_or, replicate}
use Rattle.std.specs.Prelude.{Option, Some, None}
use Rattle.table.specs.Level.{Level, Left, Right, Expression, Ground}
use Rattle.table.specs.Below.{Below}
use Rattle.table.specs.Below as B
use Rattle.table.specs.declared.node.Node.{Node}
use Rattle.table.specs.declared.node.Node.TheVariants as N
use Rattle.table.specs.Node.{node_of, flags, flag_node, takes_call, takes_variable, under_plain, admit_node, admitted, seen_after}
use Rattle.table.specs.Reach.{Reaches, Kept}
use Rattle.table.specs.Walk.{Walked, onward, walk, part_walk, part_seen}
use Rattle.table.proofs.BasicLaw.{never}
use Rattle.table.proofs.TestLaw.{Inner}

abbrev Inners : List Level → Type 0
Inners [] = Unit {0}
Inners (l ∷ ls) = Inner l × Inners ls

more_inner : (k : ℕ) (b : Level) (ls : List Level) → Inner b → Inners ls → Inners (replicate k b ++ ls)
more_inner zero b ls i is = is
more_inner (suc k) b ls i is = (i, more_inner k b ls i is)

-- what is below a node is below no left either
admitted_inner : (l : Level) → Inner l → (t d : ℤ) (s : List Bool) (b : Level) (k : ℕ) → admitted l t d s ≡ B.Are b k → Inner b
unfolding admitted
admitted_inner l i t d s b k = at (node_of t d)
  where
    under : (l : Level) → Inner l → Inner (under_plain l)
    under Left i = absurd i
    under Right i = tt
    under Expression i = tt
    under Ground i = tt

    taken : (c : Bool) (x : Level) (j : ℕ) → Inner x → cond c (B.Are x j) B.Bad ≡ B.Are b k → Inner b
    taken true x j i e = let p : x ≡ b = cc in subst Inner p i
    taken false x j i e = absurd (never (cc))

    at : (n : Option Node) → admit_node l s n ≡ B.Are b k → Inner b
    at (Some (N.Plain j)) e = let p : under_plain l ≡ b = cc in subst Inner p (under l i)
    at (Some (N.Literal j)) e = let p : Ground ≡ b = cc in subst Inner p tt
    at (Some (N.Call j c)) e = taken (takes_call l c) Expression j tt e
    at (Some (N.Variable v)) e = taken (takes_variable l (get_or s v false)) l 0 i e
    at None e = absurd (never (cc))

pub node_keeps : (l : Level) → Inner l → (t d : ℤ) (seen : List Bool) → seen_after l t d seen ≡ seen
unfolding seen_after
node_keeps l i t d seen = at l i (node_of t d)
  where
    at : (l : Level) → Inner l → (n : Option Node) → flag_node l seen n ≡ seen
    at l i (Some (N.Plain k)) = refl
    at l i (Some (N.Literal k)) = refl
    at l i (Some (N.Call k c)) = refl
    at Left i (Some (N.Variable v)) = absurd i
    at Right i (Some (N.Variable v)) = refl
    at Expression i (Some (N.Variable v)) = refl
    at Ground i (Some (N.Variable v)) = refl
    at l i None = refl

walk_keeps : (ws : List ℤ) (at : ℕ) (ls : List Level) (seen : List Bool) → Inners ls → (walk ws at ls seen).seen ≡ seen
walk_keeps [] at [] seen is = refl
walk_keeps [] at (l ∷ ls) seen is = refl
walk_keeps (t ∷ []) at [] seen is = refl
walk_keeps (t ∷ []) at (l ∷ ls) seen is = refl
walk_keeps (t ∷ d ∷ ws) at [] seen is = refl
walk_keeps (t ∷ d ∷ ws) at (l ∷ ls) seen is = pick (admitted l t d seen) refl (λ ms s j. walk_keeps ws (at + 2) ms s j)
  where
    pick : (b : Below) → admitted l t d seen ≡ b → ((ms : List Level) (s : List Bool) → Inners ms → (walk ws (at + 2) ms s).seen ≡ s) → (onward b ls (seen_after l t d seen) (λ ms s. walk ws (at + 2) ms s)).seen ≡ seen
    pick B.Bad q h = node_keeps l is.0 t d seen
    pick (B.Are b k) q h = h (replicate k b ++ ls) (seen_after l t d seen) (more_inner k b ls (admitted_inner l is.0 t d seen b k q) is.1) ∙ node_keeps l is.0 t d seen

module _ (ws : List ℤ) (l : Level) (at k : ℕ) (seen : List Bool) (e m : ℕ) (s : List Bool) (r : Reaches ws l at k seen e m s) where
  reach_keeps : Inner l → s ≡ seen
  reach_keeps i =
      sym (walk_keeps (drop e ws) e (replicate m l ++ []) s (more_inner m l [] i tt)) ∙
      (sym (ap (λ (w : Walked). w.seen) (r.same [])) ∙ walk_keeps (drop at ws) at (replicate k l ++ []) seen (more_inner k l [] i tt))

-- ---- the flags where a walk finds nothing
pub kept_same : (l : Level) (s : List Bool) → Kept l s s
kept_same Left s = tt
kept_same Right s = refl
kept_same Expression s = refl
kept_same Ground s = refl

pub kept_flags : (l : Level) (v : ℕ) (s : List Bool) {s' : List Bool} → s' ≡ flags l v s → Kept l s s'
kept_flags Left v s e = tt
kept_flags Right v s e = e
kept_flags Expression v s e = e
kept_flags Ground v s e = e

pub kept_on : (ws : List ℤ) (l : Level) (at k : ℕ) (seen : List Bool) (e m : ℕ) (s : List Bool) → Reaches ws l at k seen e m s → (s' : List Bool) → Kept l s s' → Kept l seen s'
kept_on ws Left at k seen e m s r s' q = tt
kept_on ws Right at k seen e m s r s' q = q ∙ reach_keeps ws Right at k seen e m s r tt
kept_on ws Expression at k seen e m s r s' q = q ∙ reach_keeps ws Expression at k seen e m s r tt
kept_on ws Ground at k seen e m s r s' q = q ∙ reach_keeps ws Ground at k seen e m s r tt

pub part_keeps : (ws : List ℤ) (at : ℕ) (l : Level) (seen : List Bool) → Inner l → part_seen ws at l seen ≡ seen
unfolding part_walk
part_keeps ws at l seen i = walk_keeps (drop at ws) at (l ∷ []) seen (i, tt)
