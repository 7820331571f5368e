-- The answers that can occur, by the ranges of document 01. `proofs/RangeLaw`: every contract gives such an answer.
use Rattle.std.specs.Prelude.{ℕ, ◌≤◌, ◌<◌, Option, Some, None, Result, Ok, Err}
use Rattle.minuska.specs.declared.Refusal.{Refusal}
use Rattle.minuska.specs.declared.Stepped.{Stepped}
use Rattle.minuska.specs.declared.MatchAnswer.{MatchAnswer}
use Rattle.minuska.specs.declared.MatchAnswer.TheVariants as M
use Rattle.minuska.specs.declared.RunAnswer.{RunAnswer}
use Rattle.minuska.specs.declared.RunAnswer.TheVariants as R
use Rattle.minuska.specs.declared.ReplayAnswer.{ReplayAnswer}
use Rattle.minuska.specs.Rule.{max_nodes, max_steps}
use Rattle.minuska.specs.Answer.{number}

abbrev pub AnyGood : Unit {0} → Type 0
AnyGood _ = Unit {0}

-- "Each term or expression has at most 512 nodes."
abbrev pub CountWithin : MatchAnswer → Type 0
CountWithin (M.Matches k) = k ≤ 512
CountWithin (M.Differs k) = k ≤ 512

-- "its rule count, 0 to 256"
abbrev pub RuleWithin : Option ℕ → Type 0
RuleWithin None = Unit {0}
RuleWithin (Some rule) = rule < 256

-- "its rule count, 0 to 256", "action (0 to 65,535)", "at most 32,768 nodes"
abbrev pub StepWithin : Option Stepped → Type 0
StepWithin (Some s) = (s.rule < 256) × (s.action < 65536) × (s.nodes ≤ max_nodes)
StepWithin None = Unit {0}

-- "budget of 0 to 1,000,000 steps"; 6 comes with its count
abbrev pub StepsWithin : RunAnswer → Type 0
StepsWithin (R.Stuck k) = k ≤ max_steps
StepsWithin (R.Spent k) = k ≤ max_steps
StepsWithin (R.Over k) = k ≤ max_steps

abbrev pub AnyReplay : ReplayAnswer → Type 0
AnyReplay _ = Unit {0}

-- an answer in its range, or a refusal whose number is at most so much
abbrev pub InRange : {A : Type 0} → (A → Type 0) → ℕ → Result A Refusal → Type 0
InRange Within most (Ok answer) = Within answer
InRange Within most (Err why) = number why ≤ most

abbrev pub CheckInRange : Result (Unit {0}) Refusal → Type 0
CheckInRange = InRange AnyGood 2

abbrev pub MatchInRange : Result MatchAnswer Refusal → Type 0
MatchInRange = InRange CountWithin 2

abbrev pub ReasonsInRange : Result (Option ℕ) Refusal → Type 0
ReasonsInRange = InRange RuleWithin 5

abbrev pub StepInRange : Result (Option Stepped) Refusal → Type 0
StepInRange = InRange StepWithin 6

abbrev pub RunInRange : Result RunAnswer Refusal → Type 0
RunInRange = InRange StepsWithin 5

abbrev pub ReplayInRange : Result ReplayAnswer Refusal → Type 0
ReplayInRange = InRange AnyReplay 6
