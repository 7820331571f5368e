-- A rule's verdict: that it applies, or its obstacle. Each statement is about every rule and term that the words can be: there is only one of each.
use Rattle.std.specs.Prelude.{◌≡◌, List, ℕ, ℤ, Result, Ok, Err}
use Rattle.std.proofs.Math.Option.{Option, none, some}
use Rattle.minuska.specs.Term.{Term, single}
use Rattle.minuska.specs.Satisfaction.{Valuation}
use Rattle.minuska.specs.Obstacle.{Reason, left_differs, condition_fails}
use Rattle.minuska.specs.Rule.{Rule}
use Rattle.minuska.specs.Computed.Match.{try_match, unbound}
use Rattle.minuska.specs.Computed.Reasons.{reason}
use Rattle.minuska.specs.Bridge.Place.{Binds}
use Rattle.step.specs.declared.rule.Obstacle.{Obstacle}
use Rattle.step.specs.declared.rule.Obstacle.TheVariants.{Left, Condition}
use Rattle.step.specs.Apply.{Candidate}
use Rattle.term.specs.declared.places.Places.{Places}
use Rattle.step.specs.declared.rule.Attempt.{Attempt}

-- an obstacle as the code has it
abbrev pub obstacle_of : Reason → Obstacle
obstacle_of (left_differs k) = Left k
obstacle_of (condition_fails k) = Condition k

abbrev pub verdict_for : Option Reason → Result (Unit {0}) Obstacle
verdict_for none = Ok tt
verdict_for (some o) = Err (obstacle_of o)

abbrev pub verdict_of : Rule → Term → Result (Unit {0}) Obstacle
verdict_of rule g = verdict_for (reason rule g)

-- the verdict on a rule
pub record VerdictIs (ws cs : List ℤ) (n : ℕ) (r : Result (Unit {0}) Obstacle) : Type 0 where
  pub is : (rule : Rule) (g : Term) → Candidate ws cs n rule g → r ≡ verdict_of rule g

-- the same; and if its left matches, the arrays hold where the variables' terms stand
pub record JudgeIs (ws cs : List ℤ) (n : ℕ) (starts' ends' : List ℕ) (r : Result (Unit {0}) Obstacle) : Type 0 where
  pub verdict : VerdictIs ws cs n r
  pub binds : (rule : Rule) (g : Term) (ρ : Valuation) → Candidate ws cs n rule g → try_match (single rule.left) (single g) unbound ≡ some ρ → Binds cs starts' ends' ρ

-- the same over a rule at a configuration and places, as the code's contracts name it
abbrev pub VerdictHere : Attempt → Result (Unit {0}) Obstacle → Type 0
VerdictHere a r = VerdictIs a.rule.table.words.now a.configuration.words.now a.rule.number r

abbrev pub JudgeIsHere : Attempt → Places → Result (Unit {0}) Obstacle → Type 0
JudgeIsHere a p r = JudgeIs a.rule.table.words.now a.configuration.words.now a.rule.number p.starts p.ends r
