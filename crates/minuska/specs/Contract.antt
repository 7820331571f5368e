-- THE CONTRACTS of the public routines, a record each: the outcome, for all inputs; the answer that is returned for it, and what that says in document 01's
-- numbers and values; every lent slice afterwards; the claim over the relations about that outcome; and when it is refused. A lent slice has its name at entry, and a prime at exit.
use Rattle.std.specs.Prelude.{◌≡◌, ◌↔◌, List, [], ℕ, ◌*◌, ℤ, length, take, drop, Option, Result}
use Rattle.std.proofs.Math.Option.{some, none}
use Rattle.minuska.specs.Term.{Term, single}
use Rattle.minuska.specs.Subterm.{subterm_at}
use Rattle.minuska.specs.Word.{encode}
use Rattle.minuska.specs.Rule.{Table, IsTable, IsConfiguration}
use Rattle.minuska.specs.Answer.{Refusal, Stepped, MatchAnswer, RunAnswer, ReplayAnswer, Outcome, MatchResult, ReasonsResult, StepResult, RunResult, ReplayResult}
use Rattle.minuska.specs.Claim.{TableClaim, ConfigurationClaim, MatchClaim, ReasonsClaim, RuleClaim, StepClaim, RunClaim, ReplayClaim, Meets, FirstGiven, step_rows, reasons_rows, run_rows, replay_rows}
use Rattle.minuska.specs.Slice.{out_limit, check_says, match_says, reasons_says, step_says, run_says, replay_says, outcome_says, match_result_says, reasons_result_says, step_result_says, run_result_says, replay_result_says, match_answer, reasons_answer, reasons_list, step_answer, step_out, run_answer, run_out, run_spare, replay_answer, replay_out, replay_choices, replay_work}
use Rattle.minuska.specs.Computed.Outcome.{table_check, configuration_check, subterm_words, match_outcome, reasons_outcome, rule_outcome, step_outcome, run_outcome, replay_outcome}

-- "Each check says good, or 1 or 2."
pub record CheckTableContract (table : List ℤ) (r : Result (Unit {0}) Refusal) : Type 0 where
  pub answer : r ≡ table_check table
  pub claim : TableClaim table r
  pub says : ((check_says r).number ≡ 1) ↔ ((t : Table) → IsTable table t → ⊥)

pub record CheckConfigurationContract (config : List ℤ) (r : Result (Unit {0}) Refusal) : Type 0 where
  pub answer : r ≡ configuration_check config
  pub claim : ConfigurationClaim config r
  pub says : ((check_says r).number ≡ 2) ↔ ((g : Term) → IsConfiguration config g → ⊥)

-- "A subterm is handed back as the part of the configuration that is that term; a place that is no node, or a malformed configuration, gets the
-- empty part."
pub record SubtermContract (config : List ℤ) (place : ℕ) (r : List ℤ) : Type 0 where
  pub answer : r ≡ subterm_words config place
  pub part : r ≡ take (length r) (drop (2 * place) config)
  pub term : (g t : Term) → IsConfiguration config g → subterm_at (single g) place ≡ some t → r ≡ encode (single t)
  pub no_node : (g : Term) → IsConfiguration config g → subterm_at (single g) place ≡ none → r ≡ []
  pub malformed : ((g : Term) → IsConfiguration config g → ⊥) → r ≡ []

-- The left of one rule: whether it matches, and how many of its nodes were compared (document 02, request 3). Nothing is written.
pub record MatchRuleContract (table config : List ℤ) (n : ℕ) (r : Result MatchAnswer Refusal) : Type 0 where
  pub outcome : Outcome MatchResult
  pub is : outcome ≡ match_outcome table config n
  pub answer : r ≡ match_answer outcome
  pub says : match_says r ≡ outcome_says match_result_says outcome
  pub claim : Meets table config (λ t g. MatchClaim t n g) outcome
  pub refuses : FirstGiven (step_rows table config) outcome

-- Why each rule does not apply, if none does (document 02, request 4).
pub record ReasonsContract (table config list list' : List ℤ) (r : Result (Option ℕ) Refusal) : Type 0 where
  pub outcome : Outcome ReasonsResult
  pub is : outcome ≡ reasons_outcome table config (length list)
  pub answer : r ≡ reasons_answer outcome
  pub says : reasons_says r ≡ outcome_says reasons_result_says outcome
  pub leaves : list' ≡ reasons_list outcome list
  pub claim : Meets table config (λ t g. ReasonsClaim t g) outcome
  pub refuses : FirstGiven (reasons_rows table config (length list)) outcome

-- The step by one given rule: "its refusals and slices are otherwise the step's".
pub record StepByRuleContract (table config : List ℤ) (n : ℕ) (out out' : List ℤ) (r : Result (Option Stepped) Refusal) : Type 0 where
  pub outcome : Outcome StepResult
  pub is : outcome ≡ rule_outcome table config n (length out)
  pub answer : r ≡ step_answer outcome
  pub says : step_says r ≡ outcome_says step_result_says outcome
  pub leaves : out' ≡ step_out outcome out
  pub claim : Meets table config (λ t g. RuleClaim t (out_limit (length out)) n g) outcome
  pub refuses : FirstGiven (step_rows table config) outcome

-- The step.
pub record StepContract (table config out out' : List ℤ) (r : Result (Option Stepped) Refusal) : Type 0 where
  pub outcome : Outcome StepResult
  pub is : outcome ≡ step_outcome table config (length out)
  pub answer : r ≡ step_answer outcome
  pub says : step_says r ≡ outcome_says step_result_says outcome
  pub leaves : out' ≡ step_out outcome out
  pub claim : Meets table config (λ t g. StepClaim t (out_limit (length out)) g) outcome
  pub refuses : FirstGiven (step_rows table config) outcome

-- The run, of a budget and a limit in nodes.
pub record RunContract (table config : List ℤ) (budget limit : ℕ) (out spare out' spare' : List ℤ) (r : Result RunAnswer Refusal) : Type 0 where
  pub outcome : Outcome RunResult
  pub is : outcome ≡ run_outcome table config budget limit (length out) (length spare)
  pub answer : r ≡ run_answer outcome
  pub says : run_says r ≡ outcome_says run_result_says outcome
  pub leaves : out' ≡ run_out limit outcome out
  pub leaves_spare : spare' ≡ run_spare limit outcome spare
  pub claim : Meets table config (λ t g. RunClaim t limit budget g) outcome
  pub refuses : FirstGiven (run_rows table config budget limit (length out) (length spare)) outcome

-- The replay, of a log and a limit in nodes.
pub record ReplayContract (table config : List ℤ) (log : List ℕ) (limit : ℕ) (out : List ℤ) (choices : List ℕ) (work : List ℤ) (out' : List ℤ) (choices' : List ℕ) (work' : List ℤ) (r : Result ReplayAnswer Refusal) : Type 0 where
  pub outcome : Outcome (ReplayResult Term)
  pub is : outcome ≡ replay_outcome table config log limit (length out) (length choices) (length work)
  pub answer : r ≡ replay_answer outcome
  pub says : replay_says r ≡ outcome_says replay_result_says outcome
  pub leaves : out' ≡ replay_out outcome out
  pub leaves_choices : choices' ≡ replay_choices outcome choices
  pub leaves_work : work' ≡ replay_work limit log outcome work
  pub claim : Meets table config (λ t g. ReplayClaim t limit log g) outcome
  pub refuses : FirstGiven (replay_rows table config log limit (length out) (length choices) (length work)) outcome
