-- The run, computed from the step's answer. `proofs/RunLaw`: it meets `RunClaim`.
use Rattle.std.specs.Prelude.{ℕ, zero, suc}
use Rattle.minuska.specs.Term.{Term}
use Rattle.minuska.specs.Rule.{Table}
use Rattle.minuska.specs.Answer.{StepResult, stepped, stuck, too_large, Ending, ends_stuck, ends_spent, ends_over, RunResult}
use Rattle.minuska.specs.Computed.Step.{step}

abbrev pub ended_at : Term → Ending → RunResult
ended_at g e = record { steps = 0; last = g; ending = e }

abbrev pub one_more : RunResult → RunResult
one_more r = record { steps = suc r.steps; last = r.last; ending = r.ending }

-- what a configuration's step says where the budget is used up, and where it is not
abbrev pub last_turn : Term → StepResult → RunResult
last_turn g (stepped n a h) = ended_at g ends_spent
last_turn g stuck = ended_at g ends_stuck
last_turn g too_large = ended_at g ends_spent

abbrev pub turn : Term → (Term → RunResult) → StepResult → RunResult
turn g go (stepped n a h) = one_more (go h)
turn g go stuck = ended_at g ends_stuck
turn g go too_large = ended_at g ends_over

unfoldable pub run : Table → ℕ → ℕ → Term → RunResult
run table limit zero g = last_turn g (step table limit g)
run table limit (suc b) g = turn g (λ h. run table limit b h) (step table limit g)
