-- WHAT A CALLER READS off the number that a function returns meets the routine's own contract.
use mathlib.Core.Path.{◌∙◌, ap, subst⁻¹}
use mathlib.Core.List.{List}
use Prim.Native.Nat.{ℕ}
use lib.IntN.{ℤ}
use Rattle.minuska.specs.Contract.{CheckTableContract, CheckConfigurationContract, MatchRuleContract, ReasonsContract, StepContract, StepByRuleContract, RunContract, ReplayContract}
use Rattle.hethalip.specs.Pack.{pack_check, pack_match, pack_reasons, pack_step, pack_run, pack_replay, Packs}
use Rattle.hethalip.specs.Range.{CheckInRange, MatchInRange, ReasonsInRange, StepInRange, RunInRange, ReplayInRange}
use Rattle.hethalip.specs.Unpack.{Lossless, unpack_check, unpack_match, unpack_reasons, unpack_step, unpack_run, unpack_replay}
use Rattle.hethalip.proofs.RangeLaw.{table_in_range, configuration_in_range, match_in_range, reasons_in_range, step_in_range, rule_in_range, run_in_range, replay_in_range}
use Rattle.hethalip.proofs.UnpackLaw.{check_lossless, match_lossless, reasons_lossless, step_lossless, run_lossless, replay_lossless}

module _ {A : Type 0} (pack : A → ℕ) (unpack : ℕ → A) (InRange : A → Type 0) (l : Lossless pack unpack InRange) (Contract : A → Type 0) (in_range : (a : A) → Contract a → InRange a) (r : ℕ) where
  read : Packs pack Contract r → Contract (unpack r)
  read p =
      subst⁻¹ Contract (ap unpack p.packed ∙ l.reads p.answer (in_range p.answer p.contract)) p.contract

module _ (ws : List ℤ) (r : ℕ) where
  pub check_table_read : Packs pack_check (CheckTableContract ws) r → CheckTableContract ws (unpack_check r)
  check_table_read = read pack_check unpack_check CheckInRange check_lossless (CheckTableContract ws) (λ a. table_in_range) r

  pub check_configuration_read : Packs pack_check (CheckConfigurationContract ws) r → CheckConfigurationContract ws (unpack_check r)
  check_configuration_read = read pack_check unpack_check CheckInRange check_lossless (CheckConfigurationContract ws) (λ a. configuration_in_range) r

module _ (ws cs : List ℤ) (rule r : ℕ) where
  pub match_read : Packs pack_match (MatchRuleContract ws cs rule) r → MatchRuleContract ws cs rule (unpack_match r)
  match_read = read pack_match unpack_match MatchInRange match_lossless (MatchRuleContract ws cs rule) (λ a. match_in_range) r

module _ (ws cs list list' : List ℤ) (r : ℕ) where
  pub reasons_read : Packs pack_reasons (ReasonsContract ws cs list list') r → ReasonsContract ws cs list list' (unpack_reasons r)
  reasons_read =
      read pack_reasons unpack_reasons ReasonsInRange reasons_lossless (ReasonsContract ws cs list list') (λ a. reasons_in_range) r

module _ (ws cs out out' : List ℤ) (r : ℕ) where
  pub step_read : Packs pack_step (StepContract ws cs out out') r → StepContract ws cs out out' (unpack_step r)
  step_read = read pack_step unpack_step StepInRange step_lossless (StepContract ws cs out out') (λ a. step_in_range) r

  pub step_by_rule_read : (rule : ℕ) → Packs pack_step (StepByRuleContract ws cs rule out out') r → StepByRuleContract ws cs rule out out' (unpack_step r)
  step_by_rule_read rule =
      read pack_step unpack_step StepInRange step_lossless (StepByRuleContract ws cs rule out out') (λ a. rule_in_range) r

module _ (ws cs : List ℤ) (budget limit : ℕ) (out spare out' spare' : List ℤ) (r : ℕ) where
  pub run_read : Packs pack_run (RunContract ws cs budget limit out spare out' spare') r → RunContract ws cs budget limit out spare out' spare' (unpack_run r)
  run_read =
      read pack_run unpack_run RunInRange run_lossless (RunContract ws cs budget limit out spare out' spare') (λ a. run_in_range) r

module _ (ws cs : List ℤ) (log : List ℕ) (limit : ℕ) (out : List ℤ) (choices : List ℕ) (work : List ℤ) (out' : List ℤ) (choices' : List ℕ) (work' : List ℤ) (r : ℕ) where
  pub replay_read : Packs pack_replay (ReplayContract ws cs log limit out choices work out' choices' work') r → ReplayContract ws cs log limit out choices work out' choices' work' (unpack_replay r)
  replay_read =
      read pack_replay unpack_replay ReplayInRange replay_lossless (ReplayContract ws cs log limit out choices work out' choices' work') (λ a. replay_in_range) r
