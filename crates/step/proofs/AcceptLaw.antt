-- Words that the two checks refuse: the outcome of a match, of reasons and of a step is that refusal, and every slice keeps.
use Rattle.std.specs.Prelude.{Err}
use mathlib.Core.Path.{◌≡◌, sym, ◌∙◌, ap}
use mathlib.Core.List.{List}
use Prim.Native.Nat.{ℕ}
use lib.IntN.{ℤ}
use lib.ListN.{length}
use Rattle.minuska.specs.declared.Refusal.{Refusal}
use Rattle.minuska.specs.Answer.{Outcome, refused, ReasonsResult, StepResult}
use Rattle.minuska.specs.Slice.{match_answer, reasons_answer, reasons_list, step_answer, step_out}
use Rattle.minuska.specs.Computed.Outcome.{table_check, configuration_check, or_second, reasons_outcome, rule_outcome, step_outcome}
use Rattle.minuska.specs.Contract.{MatchRuleContract, ReasonsContract, StepByRuleContract, StepContract}
use Rattle.minuska.proofs.ShutLaw.{match_outcome_is, reasons_outcome_is, rule_outcome_is, step_outcome_is}
use Rattle.minuska.proofs.Bridge.AcceptedLaw.{refused_first}
use Rattle.minuska.proofs.ContractLaw.{match_rule_contract, reasons_contract, step_by_rule_contract, step_contract}

-- ---- a match, reasons and a step on words that they refuse
module _ (ws cs : List ℤ) (r : Refusal) (e : or_second (table_check ws) (configuration_check cs) ≡ Err r) where
  pub refused_match : (n : ℕ) → MatchRuleContract ws cs n (Err r)
  unfolding match_answer
  refused_match n = match_rule_contract ws cs n (Err r) (ap match_answer (sym (match_outcome_is ws cs n ∙ refused_first ws cs _ r e)))

module _ (ws cs list : List ℤ) (r : Refusal) (e : or_second (table_check ws) (configuration_check cs) ≡ Err r) where
  pub refused_reasons : ReasonsContract ws cs list list (Err r)
  unfolding reasons_answer reasons_list
  refused_reasons =
      let o : reasons_outcome ws cs (length list) ≡ refused r = reasons_outcome_is ws cs (length list) ∙ refused_first ws cs _ r e in
      reasons_contract ws cs list list (Err r) (ap reasons_answer (sym o)) (ap (λ (x : Outcome ReasonsResult). reasons_list x list) (sym o))

module _ (ws cs out : List ℤ) (r : Refusal) (e : or_second (table_check ws) (configuration_check cs) ≡ Err r) where
  pub refused_by_rule : (n : ℕ) → StepByRuleContract ws cs n out out (Err r)
  unfolding step_answer step_out
  refused_by_rule n =
      let o : rule_outcome ws cs n (length out) ≡ refused r = rule_outcome_is ws cs n (length out) ∙ refused_first ws cs _ r e in
      step_by_rule_contract ws cs n out out (Err r) (ap step_answer (sym o)) (ap (λ (x : Outcome StepResult). step_out x out) (sym o))

  pub refused_step : StepContract ws cs out out (Err r)
  unfolding step_answer step_out
  refused_step =
      let o : step_outcome ws cs (length out) ≡ refused r = step_outcome_is ws cs (length out) ∙ refused_first ws cs _ r e in
      step_contract ws cs out out (Err r) (ap step_answer (sym o)) (ap (λ (x : Outcome StepResult). step_out x out) (sym o))
