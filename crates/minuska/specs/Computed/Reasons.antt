-- Why rules do not apply, computed: of each rule its obstacle, and of all the list, unless one applies. `proofs/ObstacleLaw`: they are `Obstacle`;
-- `proofs/ReasonsLaw`: the answer meets `ReasonsClaim`.
use Rattle.std.specs.Prelude.{cond, List, [], ◌∷◌, ℕ, suc}
use Rattle.std.proofs.Math.Option.{Option, none, some}
use Rattle.minuska.specs.Basics.{◌>>=◌}
use Rattle.minuska.specs.Term.{Term}
use Rattle.minuska.specs.Satisfaction.{Valuation, SideCondition}
use Rattle.minuska.specs.Obstacle.{Reason, left_differs, condition_fails}
use Rattle.minuska.specs.Rule.{Rule, Table}
use Rattle.minuska.specs.Answer.{ReasonsResult, listed, not_stuck}
use Rattle.minuska.specs.Computed.Compare.{Comparison, agreed, apart, comparison}
use Rattle.minuska.specs.Computed.Value.{holds}
use Rattle.minuska.specs.Computed.Step.{earliest}

-- the first of some conditions that fails, by its number from 0
abbrev pub failing : Valuation → List SideCondition → Option ℕ
failing ρ [] = none
failing ρ (c ∷ cs) = cond (holds ρ c) (failing ρ cs >>= λ k. some (suc k)) (some 0)

-- a rule's obstacle: the place at which its left disagrees, by the comparison that counts its nodes (request 3); or else the first condition that fails; none where it applies
abbrev pub reason_by : List SideCondition → Comparison → Option Reason
reason_by conds (agreed ρ) = failing ρ conds >>= λ k. some (condition_fails k)
reason_by conds (apart k) = some (left_differs k)

abbrev pub reason : Rule → Term → Option Reason
reason r g = reason_by r.conditions (comparison r.left g)

-- of rules in their order: of each that has one
abbrev pub with_reason : Option Reason → List Reason → List Reason
with_reason none os = os
with_reason (some o) os = o ∷ os

abbrev pub reasons_of : List Rule → Term → List Reason
reasons_of [] g = []
reasons_of (r ∷ rs) g = with_reason (reason r g) (reasons_of rs g)

-- the list where no rule applies, else the rule that a step takes
abbrev pub listed_unless : Option (ℕ × Term) → List Reason → ReasonsResult
listed_unless none os = listed os
listed_unless (some nh) os = not_stuck nh.0

unfoldable pub reasons : Table → Term → ReasonsResult
reasons table g = listed_unless (earliest table g) (reasons_of table g)
