-- Whether a walk has met a dictionary: from node to node, from turn to turn.
use mathlib.Core.Path.{◌≡◌, refl}
use mathlib.Core.Bool.{Bool, true, false, ◌||◌, true≢false}
use mathlib.Core.List.{List}
use Prim.Native.Nat.{ℕ, ◌+◌}
use lib.IntN.{ℤ}
use Rattle.term.proofs.MetLaw.{none_yet, none_joined, none_here}
use Rattle.term.specs.TermEnd.{GroundTermsAre}
use Rattle.term.specs.declared.ground.Walked.{Walked}
use Rattle.std.specs.Prelude.{Some}
use Rattle.table.specs.Node.{NodeAt}
use Rattle.table.specs.Reach.{Met}
use Rattle.table.specs.declared.node.Node.{Node}
use Rattle.table.proofs.NodeLaw.{MayHave, node_other}

or_left : (a b : Bool) → (a || b) ≡ false → a ≡ false
or_left true b e = e
or_left false b e = refl

or_right : (a b : Bool) → (a || b) ≡ false → b ≡ false
or_right true b e = absurd (true≢false e)
or_right false b e = e

module _ (ws : List ℤ) where
  -- one was met: nothing is said
  pub met_some : (a b : ℕ) → Met ws a b true
  met_some a b = record { none = λ e. absurd (true≢false e) }

  pub met_start : (at : ℕ) → Met ws at at false
  met_start at = record { none = λ e. none_yet ws at }

  pub met_on : (a b c : ℕ) (x y : Bool) → Met ws a b x → Met ws b c y → Met ws a c (x || y)
  met_on a b c x y m n = record { none = λ e. none_joined ws a b c (m.none (or_left x y e)) (n.none (or_right x y e)) }

  -- the answer of the walk over ground terms
  pub met_ground : (at k : ℕ) (w : Walked) → GroundTermsAre ws at k (Some w) → Met ws at w.end w.met
  met_ground at k w g = record { none = λ p. g.none w refl p }

-- a node that is no dictionary, alone and in front of others
module _ {ws : List ℤ} {i : ℕ} {n : Node} (h : NodeAt ws i n) (f : MayHave (Some n) → ⊥) where
  pub met_node : Met ws i (i + 2) false
  met_node = record { none = λ e. none_here ws i (λ q. f (node_other h q)) }

  pub met_before : (e : ℕ) (met : Bool) → Met ws (i + 2) e met → Met ws i e met
  met_before e met m = met_on ws i (i + 2) e false met met_node m
