-- Why a rule does not apply to a configuration (document 02, request 4): its obstacle.
use Rattle.std.specs.Prelude.{◌≡◌, ℕ, take}
use Rattle.std.proofs.Math.Option.{some}
use Rattle.std.proofs.Math.ListN.{get_elem?}
use Rattle.minuska.specs.Term.{Term, single}
use Rattle.minuska.specs.Satisfaction.{Valuation, Matches, SideCondition, Holds, HoldAll}
use Rattle.minuska.specs.Misfit.{Disagrees}
use Rattle.minuska.specs.Rule.{Rule}

-- "the place from 0 of the first left node in preorder that disagrees .., or else .. the lowest failing condition's number from 0"
pub data Reason : Type 0 where
  left_differs : ℕ → Reason
  condition_fails : ℕ → Reason

-- The left is satisfied by a valuation, every condition before this number holds under it, and the one of this number does not.
pub record LowestFailing (r : Rule) (g : Term) (n : ℕ) : Type 0 where
  pub valuation : Valuation
  pub matched : Matches valuation (single r.left) (single g)
  pub before : HoldAll valuation (take n r.conditions)
  pub condition : SideCondition
  pub numbered : get_elem? r.conditions n ≡ some condition
  pub fails : Holds valuation condition → ⊥

-- "that rule's real obstacle", in its two cases. A rule has one exactly if no valuation and term are related by it, and has only one (`proofs/ObstacleLaw`).
pub record Obstacle (r : Rule) (g : Term) (x : Reason) : Type 0 where
  pub left : (place : ℕ) → x ≡ left_differs place → Disagrees r.left g place
  pub condition : (n : ℕ) → x ≡ condition_fails n → LowestFailing r g n
