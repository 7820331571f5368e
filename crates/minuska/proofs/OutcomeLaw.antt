-- The shut names of `Computed/Outcome`, by what they mean: the checks, the answers on words, and the slices afterwards.
use mathlib.Core.Path.{◌≡◌, refl, sym, ◌∙◌, ap, subst}
use mathlib.Core.Bool.{Bool, true, false, ◌||◌, cond, true≢false}
use mathlib.Core.Logic.{◌↔◌}
use mathlib.Core.Option.{Option, none, some}
use mathlib.Core.List.{List, [], ◌∷◌}
use Prim.Native.Nat.{ℕ, ◌≤◌}
use native.Mathlib.Omega.{arith}
use lib.Dec.{eqb, ltb}
use Rattle.std.specs.Prelude.{Result, Ok, Err}
use lib.ListN.{length}
use lib.IntN.{ℤ}
use borrow.Author.Tests.{ltb-false}
use Rattle.minuska.specs.Term.{Term, node_count}
use Rattle.minuska.specs.Rule.{Table, IsTable, IsConfiguration, max_nodes, max_steps, max_actions}
use Rattle.minuska.specs.Answer.{Refusal, number, BadTable, BadConfiguration, Outcome, refused, gives}
use Rattle.minuska.specs.Claim.{TableClaim, ConfigurationClaim, MatchClaim, ReasonsClaim, RuleClaim, StepClaim, RunClaim, ReplayClaim, Meets}
use Rattle.minuska.specs.Computed.Read.{read_table, read_configuration}
use Rattle.minuska.specs.Computed.Compare.{match_rule}
use Rattle.minuska.specs.Computed.Step.{step_by_rule, step}
use Rattle.minuska.specs.Computed.Reasons.{reasons}
use Rattle.minuska.specs.Computed.Run.{run}
use Rattle.minuska.specs.Computed.Replay.{replay}
use Rattle.minuska.specs.Slice.{check_says, out_limit}
use Rattle.minuska.specs.Computed.Outcome.{need, on_words, Test, tested, size_tests, checked, table_check, configuration_check, match_outcome, list_tests, reasons_outcome, rule_outcome, step_outcome, limit_refused, run_short, run_outcome, replay_short, replay_outcome}
use Rattle.minuska.proofs.TableLaw.{read_table_iff}
use Rattle.minuska.proofs.ConfigurationLaw.{read_configuration_iff}
use Rattle.minuska.proofs.MisfitLaw.{match_meets}
use Rattle.minuska.proofs.StepLaw.{rule_meets, step_meets}
use Rattle.minuska.proofs.ReasonsLaw.{reasons_meets}
use Rattle.minuska.proofs.RunLaw.{run_meets}
use Rattle.minuska.proofs.ReplayLaw.{replay_meets}

-- ---- the checks
module _ {A : Type 0} (o : Option A) (r : Refusal) (Is : A → Type 0) (is : (a : A) → (o ≡ some a) ↔ Is a) where
  refused_not : ◌≡◌ {A = Result (Unit {0}) Refusal} (Err r) (Ok tt) → ⊥
  refused_not e = cc

  checked_good : (checked r o ≡ Ok tt) ↔ ((a : A) × Is a)
  checked_good = (there o refl, λ h. ap (checked r) ((is h.0).1 h.1))
    where
      there : (p : Option A) → o ≡ p → checked r p ≡ Ok tt → (a : A) × Is a
      there none e z = absurd (refused_not z)
      there (some a) e z = (a, (is a).0 e)

  checked_bad : (checked r o ≡ Err r) ↔ ((a : A) → Is a → ⊥)
  checked_bad = (
    (λ z a h. refused_not (sym z ∙ ap (checked r) ((is a).1 h))),
    back o refl,
  )
    where
      back : (p : Option A) → o ≡ p → ((a : A) → Is a → ⊥) → checked r p ≡ Err r
      back none e f = refl
      back (some a) e f = absurd (f a ((is a).0 e))

  -- the same by document 01's number
  checked_says : (number r ≡ 0 → ⊥) → ((check_says (checked r o)).number ≡ number r) ↔ ((a : A) → Is a → ⊥)
  unfolding check_says
  checked_says n = (there o refl, λ f. ap (λ (x : Result (Unit {0}) Refusal). (check_says x).number) (checked_bad.1 f))
    where
      there : (p : Option A) → o ≡ p → (check_says (checked r p)).number ≡ number r → (a : A) → Is a → ⊥
      there none e z = checked_bad.0 (ap (checked r) e)
      there (some a) e z = absurd (n (sym z))

pub table_check_lem : (ws : List ℤ) → TableClaim ws (table_check ws)
unfolding table_check
table_check_lem ws =
    record { good = checked_good (read_table ws) BadTable (IsTable ws) (read_table_iff ws); bad = checked_bad (read_table ws) BadTable (IsTable ws) (read_table_iff ws) }

pub configuration_check_lem : (ws : List ℤ) → ConfigurationClaim ws (configuration_check ws)
unfolding configuration_check
configuration_check_lem ws =
    record { good = checked_good (read_configuration ws) BadConfiguration (IsConfiguration ws) (read_configuration_iff ws); bad = checked_bad (read_configuration ws) BadConfiguration (IsConfiguration ws) (read_configuration_iff ws) }

pub table_check_says : (ws : List ℤ) → ((check_says (table_check ws)).number ≡ 1) ↔ ((t : Table) → IsTable ws t → ⊥)
unfolding table_check number
table_check_says ws = checked_says (read_table ws) BadTable (IsTable ws) (read_table_iff ws) (λ e. omega arith)

pub configuration_check_says : (ws : List ℤ) → ((check_says (configuration_check ws)).number ≡ 2) ↔ ((g : Term) → IsConfiguration ws g → ⊥)
unfolding configuration_check number
configuration_check_says ws =
    checked_says (read_configuration ws) BadConfiguration (IsConfiguration ws) (read_configuration_iff ws) (λ e. omega arith)

-- ---- words that are a table and a configuration pass the first two tests
module _ {B : Type 0} (ws cs : List ℤ) (table : Table) (g : Term) (p : IsTable ws table) (q : IsConfiguration cs g) (go : Table → Term → Outcome B) where
  pub on_words_lem : on_words ws cs go ≡ go table g
  on_words_lem =
      ap (λ (o : Option Table). need BadTable o λ t. need BadConfiguration (read_configuration cs) λ h. go t h) ((read_table_iff ws table).1 p) ∙
      ap (λ (o : Option Term). need BadConfiguration o λ h. go table h) ((read_configuration_iff cs g).1 q)

payload : {A : Type 0} → A → Outcome A → A
payload d (refused r) = d
payload d (gives a) = a

pub gives_injective : {A : Type 0} (a b : A) → gives a ≡ gives b → a ≡ b
unfolding payload
gives_injective a b e = ap (payload a) e

-- an answer behind tests: none of them passed
abbrev pub AllFail : List Test → Type 0
AllFail [] = Unit {0}
AllFail (t ∷ ts) = (t.given ≡ false) × AllFail ts

pub passed : {A : Type 0} (ts : List Test) (x y : A) → tested ts x ≡ gives y → AllFail ts × (x ≡ y)
passed [] x y e = (tt, gives_injective x y e)
passed {A} (t ∷ ts) x y e = pick t.given refl (λ h. passed ts x y h) e
  where
    pick : (b : Bool) → t.given ≡ b → (tested ts x ≡ gives y → AllFail ts × (x ≡ y)) → cond b (refused t.refusal) (tested ts x) ≡ gives y → ((t.given ≡ false) × AllFail ts) × (x ≡ y)
    pick true f rest h = absurd (let z : ◌≡◌ {A = ℕ} 0 1 = cc in let n : ⊥ = omega arith in n)
    pick false f rest h = let p = rest h in ((f, p.0), p.1)

-- a limit that is not refused is at least the configuration's nodes
or-false : (a b : Bool) → a || b ≡ false → b ≡ false
or-false true b e = absurd (true≢false e)
or-false false b e = e

pub limit_holds : (n : ℕ) (g : Term) → limit_refused n g ≡ false → node_count g ≤ n
limit_holds n g e = ltb-false n (node_count g) (or-false (eqb n 0 || ltb max_nodes n) (ltb n (node_count g)) e)

-- THE ANSWERS ON WORDS MEET THEIR CLAIMS
module _ (ws cs : List ℤ) where
  pub match_outcome_lem : (n : ℕ) → Meets ws cs (λ t g. MatchClaim t n g) (match_outcome ws cs n)
  unfolding match_outcome
  match_outcome_lem n =
      record { meets = λ t g y p q e. subst (MatchClaim t n g) (gives_injective (match_rule t n g) y (sym (on_words_lem ws cs t g p q (λ u h. gives (match_rule u n h))) ∙ e)) (match_meets t n g) }

  pub reasons_outcome_lem : (list : ℕ) → Meets ws cs (λ t g. ReasonsClaim t g) (reasons_outcome ws cs list)
  unfolding reasons_outcome
  reasons_outcome_lem list =
      record { meets = λ t g y p q e. let a = passed (list_tests list t) (reasons t g) y (sym (on_words_lem ws cs t g p q (λ u h. tested (list_tests list u) (reasons u h))) ∙ e) in subst (ReasonsClaim t g) a.1 (reasons_meets t p.accepted g) }

  pub rule_outcome_lem : (n out : ℕ) → Meets ws cs (λ t g. RuleClaim t (out_limit out) n g) (rule_outcome ws cs n out)
  unfolding rule_outcome
  rule_outcome_lem n out =
      record { meets = λ t g y p q e. subst (RuleClaim t (out_limit out) n g) (gives_injective (step_by_rule t (out_limit out) n g) y (sym (on_words_lem ws cs t g p q (λ u h. gives (step_by_rule u (out_limit out) n h))) ∙ e)) (rule_meets t p.accepted (out_limit out) n g) }

  pub step_outcome_lem : (out : ℕ) → Meets ws cs (λ t g. StepClaim t (out_limit out) g) (step_outcome ws cs out)
  unfolding step_outcome
  step_outcome_lem out =
      record { meets = λ t g y p q e. subst (StepClaim t (out_limit out) g) (gives_injective (step t (out_limit out) g) y (sym (on_words_lem ws cs t g p q (λ u h. gives (step u (out_limit out) h))) ∙ e)) (step_meets t p.accepted (out_limit out) g) }

  pub run_outcome_lem : (budget n out spare : ℕ) → Meets ws cs (λ t g. RunClaim t n budget g) (run_outcome ws cs budget n out spare)
  unfolding run_outcome
  run_outcome_lem budget n out spare =
      record { meets = λ t g y p q e. let a = passed (size_tests (ltb max_steps budget) (limit_refused n g) (run_short n out spare)) (run t n budget g) y (sym (on_words_lem ws cs t g p q (λ u h. tested (size_tests (ltb max_steps budget) (limit_refused n h) (run_short n out spare)) (run u n budget h))) ∙ e) in subst (RunClaim t n budget g) a.1 (run_meets t p.accepted n budget g) }

  pub replay_outcome_lem : (log : List ℕ) (n out choices work : ℕ) → Meets ws cs (λ t g. ReplayClaim t n log g) (replay_outcome ws cs log n out choices work)
  unfolding replay_outcome
  replay_outcome_lem log n out choices work =
      record { meets = λ t g y p q e. let a = passed (size_tests (ltb max_actions (length log)) (limit_refused n g) (replay_short n log out choices work)) (replay t n log g) y (sym (on_words_lem ws cs t g p q (λ u h. tested (size_tests (ltb max_actions (length log)) (limit_refused n h) (replay_short n log out choices work)) (replay u n log h))) ∙ e) in subst (ReplayClaim t n log g) a.1 (replay_meets t p.accepted n log g (limit_holds n g a.0.1.0)) }
