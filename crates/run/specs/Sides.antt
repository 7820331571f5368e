-- One turn of a run: which slice the current configuration stands in, which one its step is written into, and what the step's answer comes to.
use Rattle.std.specs.Prelude.{◌≡◌, cond, List, ℕ, ◌*◌, ◌≤◌, ℤ, ltb, length, take, drop, Option, Some, None, Result, Ok, Err}
use Rattle.std.specs.declared.ops.ControlFlow.{ControlFlow}
use Rattle.std.specs.declared.ops.ControlFlow.TheVariants.{Continue, Break}
use Rattle.minuska.specs.declared.Refusal.{Refusal}
use Rattle.minuska.specs.declared.Stepped.{Stepped}
use Rattle.minuska.specs.declared.RunAnswer.{RunAnswer}
use Rattle.minuska.specs.declared.RunAnswer.TheVariants as R
use Rattle.minuska.specs.Answer.{Outcome, StepResult}
use Rattle.minuska.specs.Slice.{step_answer, step_out}
use Rattle.minuska.specs.Computed.Outcome.{step_outcome}
use Rattle.minuska.specs.Bridge.Place.{Accepted}
use Rattle.run.specs.declared.Side.{Side}
use Rattle.run.specs.declared.Side.TheVariants.{Initial, Out, Spare}

-- one of three, by the side
abbrev pub by_side : {A : Type 0} → Side → A → A → A → A
by_side Initial initial out spare = initial
by_side Out initial out spare = out
by_side Spare initial out spare = spare

-- the side that a step from this one writes
abbrev pub other : Side → Side
other side = by_side side Out Spare Out

-- a configuration of so many nodes stands at the start of a slice
pub record StartsWith (ws : List ℤ) (nodes : ℕ) : Type 0 where
  pub accepted : Accepted (take (2 * nodes) ws)
  pub within : 2 * nodes ≤ length ws

-- a step's answer, and the slice whose first words it was given to write; the words behind them keep
pub record StepsInto (o : Outcome StepResult) (words : ℕ) (to to' : List ℤ) (r : Result (Option Stepped) Refusal) : Type 0 where
  pub answer : r ≡ step_answer o
  pub leaves : take words to' ≡ step_out o (take words to)
  pub behind : drop words to' ≡ drop words to

-- a turn: the step of the current configuration, into the other slice; the current one keeps
pub record StepsAcross (table config : List ℤ) (side : Side) (nodes words : ℕ) (out spare out' spare' : List ℤ) (r : Result (Option Stepped) Refusal) : Type 0 where
  pub steps : StepsInto (step_outcome table (take (2 * nodes) (by_side side config out spare)) words) words (by_side side out spare out) (by_side side out' spare' out') r
  pub keeps : by_side side spare' out' spare' ≡ by_side side spare out spare

-- What a step's answer after k steps comes to. "It ends stuck after k steps, or spent if k equals the budget and some rule still applies, or with 6 if
-- k is below the budget and the next successor exceeds N nodes."
abbrev pub judged : Result (Option Stepped) Refusal → ℕ → ℕ → ControlFlow RunAnswer ℕ
judged (Ok (Some stepped)) k budget = cond (ltb k budget) (Continue stepped.nodes) (Break (R.Spent k))
judged (Ok None) k budget = Break (R.Stuck k)
judged (Err r) k budget = cond (ltb k budget) (Break (R.Over k)) (Break (R.Spent k))
