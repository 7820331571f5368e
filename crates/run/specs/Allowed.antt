-- What refusals 3 to 5 leave of a run's numbers: the configuration's nodes, the budget, the limit, and the lengths of out and spare.
use Rattle.std.specs.Prelude.{ℕ}
use Rattle.minuska.specs.Rule.{max_steps}
use Rattle.minuska.specs.Computed.Outcome.{run_short}
use Rattle.sizes.specs.Sizes.{SizesHold}

abbrev pub Allowed : ℕ → ℕ → ℕ → ℕ → ℕ → Type 0
Allowed nodes budget limit out spare = SizesHold budget max_steps nodes limit (run_short limit out spare)
