-- How a run's steps end, and what is left to be done then.
use Rattle.std.specs.Prelude.{◌≡◌, List, ℕ, ◌*◌, ◌≤◌, ℤ, length, take, drop, Ok}
use Rattle.minuska.specs.Term.{single}
use Rattle.minuska.specs.Word.{encode}
use Rattle.minuska.specs.Answer.{gives, RunResult}
use Rattle.minuska.specs.Slice.{write_zeros, write_filled, run_answer}
use Rattle.minuska.specs.Computed.Outcome.{run_outcome}
use Rattle.run.specs.declared.Ended.{Ended}
use Rattle.run.specs.Sides.{by_side}

-- the run's answer; its last configuration stands at the start of the slice that is named; the words behind the limit's keep
pub record RunEnds (table config : List ℤ) (budget limit : ℕ) (out spare out' spare' : List ℤ) (r : Ended) : Type 0 where
  pub result : RunResult
  pub is : run_outcome table config budget limit (length out) (length spare) ≡ gives result
  pub answer : Ok r.answer ≡ run_answer (gives result)
  pub last : take (2 * r.last.nodes) (by_side r.last.side config out' spare') ≡ encode (single result.last)
  pub within : 2 * r.last.nodes ≤ length (by_side r.last.side config out' spare')
  pub fits : r.last.nodes ≤ limit
  pub out_behind : drop (2 * limit) out' ≡ drop (2 * limit) out
  pub spare_behind : drop (2 * limit) spare' ≡ drop (2 * limit) spare

-- "The k-th configuration stands at the start of out, zeros follow up to 2N words; spare's first 2N words are zero; later words of both keep."
pub record Finishes (words : ℕ) (last out spare out' spare' : List ℤ) : Type 0 where
  pub leaves : out' ≡ write_filled words last out
  pub leaves_spare : spare' ≡ write_zeros words spare
