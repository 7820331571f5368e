-- A routine that returns the outcome's answer and leaves its slices meets its contract; and what a caller reads off a contract.
use mathlib.Core.Path.{◌≡◌, refl, ◌∙◌, ap, subst⁻¹}
use mathlib.Core.Logic.{◌↔◌}
use mathlib.Core.List.{List, [], ◌∷◌}
use Prim.Native.Nat.{ℕ}
use lib.IntN.{ℤ}
use lib.ListN.{length}
use Rattle.std.specs.Prelude.{Option, Result, Ok}
use Rattle.minuska.specs.Term.{Term}
use Rattle.minuska.specs.Rule.{Table, IsTable, IsConfiguration}
use Rattle.minuska.specs.Answer.{Refusal, Stepped, MatchAnswer, RunAnswer, ReplayAnswer, Outcome, refused, gives, MatchResult, matched, misfit, ReasonsResult, listed, not_stuck, StepResult, stepped, stuck, too_large, Ending, ends_stuck, ends_spent, ends_over, RunResult, ReplayResult, reproduced, exceeded, not_reproduced}
use Rattle.minuska.specs.Claim.{TableClaim, ConfigurationClaim}
use Rattle.minuska.specs.Slice.{check_says, match_says, reasons_says, step_says, run_says, replay_says, outcome_says, match_result_says, reasons_result_says, step_result_says, ending_says, run_result_says, replay_result_says, ended_as, match_answer, reasons_answer, reasons_list, step_answer, step_out, run_answer, run_out, run_spare, replay_answer, replay_out, replay_choices, replay_work}
use Rattle.minuska.specs.Computed.Outcome.{table_check, configuration_check, match_outcome, reasons_outcome, rule_outcome, step_outcome, run_outcome, replay_outcome}
use Rattle.minuska.specs.Contract.{CheckTableContract, CheckConfigurationContract, MatchRuleContract, ReasonsContract, StepByRuleContract, StepContract, RunContract, ReplayContract}
use Rattle.minuska.proofs.OutcomeLaw.{table_check_lem, table_check_says, configuration_check_lem, configuration_check_says, match_outcome_lem, reasons_outcome_lem, rule_outcome_lem, step_outcome_lem, run_outcome_lem, replay_outcome_lem}
use Rattle.minuska.proofs.RefusalLaw.{match_refuses, reasons_refuses, rule_refuses, step_refuses, run_refuses, replay_refuses}

-- ---- what is said
match_says_lem : (o : Outcome MatchResult) → match_says (match_answer o) ≡ outcome_says match_result_says o
unfolding match_says match_answer
match_says_lem (refused r) = refl
match_says_lem (gives (matched k)) = refl
match_says_lem (gives (misfit k)) = refl

reasons_say : (o : Outcome ReasonsResult) → reasons_says (reasons_answer o) ≡ outcome_says reasons_result_says o
unfolding reasons_says reasons_answer
reasons_say (refused r) = refl
reasons_say (gives (listed os)) = refl
reasons_say (gives (not_stuck n)) = refl

step_says_lem : (o : Outcome StepResult) → step_says (step_answer o) ≡ outcome_says step_result_says o
unfolding step_says step_answer
step_says_lem (refused r) = refl
step_says_lem (gives (stepped n a h)) = refl
step_says_lem (gives stuck) = refl
step_says_lem (gives too_large) = refl

ending_says_lem : (e : Ending) (k : ℕ) → run_says (Ok (ended_as e k)) ≡ ending_says e (k ∷ [])
unfolding run_says
ending_says_lem ends_stuck k = refl
ending_says_lem ends_spent k = refl
ending_says_lem ends_over k = refl

run_says_lem : (o : Outcome RunResult) → run_says (run_answer o) ≡ outcome_says run_result_says o
unfolding run_says run_answer
run_says_lem (refused r) = refl
run_says_lem (gives x) = ending_says_lem x.ending x.steps

replay_says_lem : (o : Outcome (ReplayResult Term)) → replay_says (replay_answer o) ≡ outcome_says replay_result_says o
unfolding replay_says replay_answer
replay_says_lem (refused r) = refl
replay_says_lem (gives (reproduced ns h)) = refl
replay_says_lem (gives exceeded) = refl
replay_says_lem (gives not_reproduced) = refl

-- ---- the checks
module _ (ws : List ℤ) (r : Result (Unit {0}) Refusal) where
  pub check_table_contract : r ≡ table_check ws → CheckTableContract ws r
  check_table_contract e = record { answer = e; claim = subst⁻¹ (TableClaim ws) e (table_check_lem ws); says = subst⁻¹ (λ (x : Result (Unit {0}) Refusal). ((check_says x).number ≡ 1) ↔ ((t : Table) → IsTable ws t → ⊥)) e (table_check_says ws) }

  pub check_configuration_contract : r ≡ configuration_check ws → CheckConfigurationContract ws r
  check_configuration_contract e = record { answer = e; claim = subst⁻¹ (ConfigurationClaim ws) e (configuration_check_lem ws); says = subst⁻¹ (λ (x : Result (Unit {0}) Refusal). ((check_says x).number ≡ 2) ↔ ((g : Term) → IsConfiguration ws g → ⊥)) e (configuration_check_says ws) }

-- ---- the left of one rule
module _ (ws cs : List ℤ) (n : ℕ) (r : Result MatchAnswer Refusal) where
  pub match_rule_contract : r ≡ match_answer (match_outcome ws cs n) → MatchRuleContract ws cs n r
  match_rule_contract e =
      record { outcome = match_outcome ws cs n; is = refl; answer = e; says = ap match_says e ∙ match_says_lem (match_outcome ws cs n); claim = match_outcome_lem ws cs n; refuses = match_refuses ws cs n }

-- ---- why rules do not apply
module _ (ws cs list list' : List ℤ) (r : Result (Option ℕ) Refusal) where
  pub reasons_contract : r ≡ reasons_answer (reasons_outcome ws cs (length list)) → list' ≡ reasons_list (reasons_outcome ws cs (length list)) list → ReasonsContract ws cs list list' r
  reasons_contract e f =
      record { outcome = reasons_outcome ws cs (length list); is = refl; answer = e; says = ap reasons_says e ∙ reasons_say (reasons_outcome ws cs (length list)); leaves = f; claim = reasons_outcome_lem ws cs (length list); refuses = reasons_refuses ws cs (length list) }

-- ---- the step by one given rule, and the step
module _ (ws cs : List ℤ) (n : ℕ) (out out' : List ℤ) (r : Result (Option Stepped) Refusal) where
  pub step_by_rule_contract : r ≡ step_answer (rule_outcome ws cs n (length out)) → out' ≡ step_out (rule_outcome ws cs n (length out)) out → StepByRuleContract ws cs n out out' r
  step_by_rule_contract e f =
      record { outcome = rule_outcome ws cs n (length out); is = refl; answer = e; says = ap step_says e ∙ step_says_lem (rule_outcome ws cs n (length out)); leaves = f; claim = rule_outcome_lem ws cs n (length out); refuses = rule_refuses ws cs n (length out) }

module _ (ws cs out out' : List ℤ) (r : Result (Option Stepped) Refusal) where
  pub step_contract : r ≡ step_answer (step_outcome ws cs (length out)) → out' ≡ step_out (step_outcome ws cs (length out)) out → StepContract ws cs out out' r
  step_contract e f =
      record { outcome = step_outcome ws cs (length out); is = refl; answer = e; says = ap step_says e ∙ step_says_lem (step_outcome ws cs (length out)); leaves = f; claim = step_outcome_lem ws cs (length out); refuses = step_refuses ws cs (length out) }

-- ---- the run
module _ (ws cs : List ℤ) (budget n : ℕ) (out spare out' spare' : List ℤ) (r : Result RunAnswer Refusal) where
  pub run_contract : r ≡ run_answer (run_outcome ws cs budget n (length out) (length spare)) → out' ≡ run_out n (run_outcome ws cs budget n (length out) (length spare)) out →
      spare' ≡ run_spare n (run_outcome ws cs budget n (length out) (length spare)) spare → RunContract ws cs budget n out spare out' spare' r
  run_contract e f g =
      record { outcome = run_outcome ws cs budget n (length out) (length spare); is = refl; answer = e; says = ap run_says e ∙ run_says_lem (run_outcome ws cs budget n (length out) (length spare)); leaves = f; leaves_spare = g; claim = run_outcome_lem ws cs budget n (length out) (length spare); refuses = run_refuses ws cs budget n (length out) (length spare) }

-- ---- the replay
module _ (ws cs : List ℤ) (log : List ℕ) (n : ℕ) (out : List ℤ) (choices : List ℕ) (work : List ℤ) (out' : List ℤ) (choices' : List ℕ) (work' : List ℤ) (r : Result ReplayAnswer Refusal) where
  pub replay_contract : r ≡ replay_answer (replay_outcome ws cs log n (length out) (length choices) (length work)) →
      out' ≡ replay_out (replay_outcome ws cs log n (length out) (length choices) (length work)) out →
      choices' ≡ replay_choices (replay_outcome ws cs log n (length out) (length choices) (length work)) choices →
      work' ≡ replay_work n log (replay_outcome ws cs log n (length out) (length choices) (length work)) work →
      ReplayContract ws cs log n out choices work out' choices' work' r
  replay_contract e f g h =
      record { outcome = replay_outcome ws cs log n (length out) (length choices) (length work); is = refl; answer = e; says = ap replay_says e ∙ replay_says_lem (replay_outcome ws cs log n (length out) (length choices) (length work)); leaves = f; leaves_choices = g; leaves_work = h; claim = replay_outcome_lem ws cs log n (length out) (length choices) (length work); refuses = replay_refuses ws cs log n (length out) (length choices) (length work) }
