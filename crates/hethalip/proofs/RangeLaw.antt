-- EVERY CONTRACT GIVES AN ANSWER IN RANGE, so that its values fit the fields of the number.
use mathlib.Core.Path.{◌≡◌, refl, subst⁻¹}
use mathlib.Core.Option.{Option, none, some}
use mathlib.Core.List.{List, [], ◌∷◌}
use Prim.Native.Nat.{ℕ, zero, suc, ◌≤◌, ◌<◌}
use native.Mathlib.Omega.{arith}
use lib.Dec.{T, lit≤}
use lib.IntN.{ℤ}
use lib.ListN.{length, get_elem?}
use Rattle.minuska.specs.Term.{Term, node_count}
use Rattle.minuska.specs.Rule.{Rule, Table, max_nodes, max_steps, max_actions, ok_table, IsTable, IsConfiguration}
use Rattle.minuska.specs.Rewriting.{RewritesBy}
use Rattle.std.specs.Prelude.{Option as StdOption, Result, Ok, Err, IfOk}
use Rattle.minuska.specs.declared.Refusal.{Refusal}
use Rattle.minuska.specs.declared.Stepped.{Stepped}
use Rattle.minuska.specs.declared.Refusal.TheVariants.{BadTable, BadConfiguration}
use Rattle.minuska.specs.declared.MatchAnswer.{MatchAnswer}
use Rattle.minuska.specs.declared.RunAnswer.{RunAnswer}
use Rattle.minuska.specs.declared.ReplayAnswer.{ReplayAnswer}
use Rattle.minuska.specs.Answer.{number, Row, Outcome, refused, gives, MatchResult, matched, misfit, ReasonsResult, listed, not_stuck, StepResult, stepped, stuck, too_large, Ending, ends_stuck, ends_spent, ends_over, RunResult, ReplayResult, reproduced, exceeded, not_reproduced}
use Rattle.minuska.specs.Claim.{FirstGiven, step_rows, long_row, limit_row, short_row, size_rows, ReasonsShort, RunShort, ReplayShort}
use Rattle.minuska.specs.Slice.{out_limit, match_answer, reasons_answer, step_answer, ended_as, run_answer, replay_answer}
use Rattle.minuska.specs.Computed.Read.{read_table, read_configuration}
use Rattle.minuska.specs.Computed.Outcome.{checked, table_check, configuration_check}
use Rattle.minuska.specs.Contract.{CheckTableContract, CheckConfigurationContract, MatchRuleContract, ReasonsContract, StepContract, StepByRuleContract, RunContract, ReplayContract}
use Rattle.minuska.proofs.Good.{good}
use Rattle.minuska.proofs.OrderLaw.{named_below}
use Rattle.minuska.proofs.Bridge.PositionLaw.{few_rules}
use Rattle.minuska.proofs.MisfitLaw.{place_low}
use Rattle.minuska.proofs.StepLaw.{rule_okay}
use Rattle.minuska.proofs.RefusalLaw.{NumberWithin, number_within, row_failed, words_read, early_number, size_numbers}
use Rattle.hethalip.specs.Range.{InRange, CheckInRange, MatchInRange, ReasonsInRange, StepInRange, RunInRange, ReplayInRange}

-- what is asked of an answer that is packed
pub given_within : {A : Type 0} (Within : A → Type 0) (most : ℕ) (r : Result A Refusal) → InRange Within most r → IfOk r Within
given_within Within most (Ok x) h = h
given_within Within most (Err why) h = tt

-- ---- the checks
checked_in_range : {A : Type 0} (why : Refusal) → number why ≤ 2 → (o : Option A) → CheckInRange (checked why o)
checked_in_range why n none = n
checked_in_range why n (some a) = tt

module _ {ws : List ℤ} {r : Result (Unit {0}) Refusal} where
  pub table_in_range : CheckTableContract ws r → CheckInRange r
  unfolding table_check number
  table_in_range c = subst⁻¹ CheckInRange c.answer (checked_in_range BadTable (lit≤ tt) (read_table ws))

  pub configuration_in_range : CheckConfigurationContract ws r → CheckInRange r
  unfolding configuration_check number
  configuration_in_range c = subst⁻¹ CheckInRange c.answer (checked_in_range BadConfiguration (lit≤ tt) (read_configuration ws))

-- ---- the left of one rule: it has at most 512 nodes
counts_in_range : (o : Outcome MatchResult) → NumberWithin 2 o → ((k : ℕ) → o ≡ gives (matched k) → k ≤ 512) → ((k : ℕ) → o ≡ gives (misfit k) → k ≤ 512) → MatchInRange (match_answer o)
unfolding match_answer
counts_in_range (refused why) e f g = e
counts_in_range (gives (matched k)) e f g = f k refl
counts_in_range (gives (misfit k)) e f g = g k refl

left_few : (t : Table) → T (ok_table t) → (n : ℕ) (r : Rule) → get_elem? t n ≡ some r → node_count r.left ≤ 512
left_few t x n r e = (good r (rule_okay t x n r e)).left.small

module _ {ws cs : List ℤ} {rule : ℕ} {r : Result MatchAnswer Refusal} where
  pub match_in_range : MatchRuleContract ws cs rule r → MatchInRange r
  unfolding number
  match_in_range c =
      subst⁻¹ MatchInRange c.answer (counts_in_range c.outcome (number_within 2 (step_rows ws cs) c.outcome (lit≤ tt, (lit≤ tt, tt)) c.refuses) all some_compared)
    where
      all : (k : ℕ) → c.outcome ≡ gives (matched k) → k ≤ 512
      all k e =
          let w = words_read ws cs [] c.outcome (matched k) e c.refuses in
          let s = ((c.claim.meets w.0 w.1 (matched k) w.2 w.3 e).matches k).0 refl in
          omega (arith, s.2, left_few w.0 w.2.accepted rule s.0 s.1)

      some_compared : (k : ℕ) → c.outcome ≡ gives (misfit k) → k ≤ 512
      some_compared zero e = omega arith
      some_compared (suc place) e =
          let w = words_read ws cs [] c.outcome (misfit (suc place)) e c.refuses in
          let s = ((c.claim.meets w.0 w.1 (misfit (suc place)) w.2 w.3 e).disagrees place).0 refl in
          omega (arith, place_low s.0.left w.1 place s.2, left_few w.0 w.2.accepted rule s.0 s.1)

-- ---- a rule that applies
-- a rule that rewrites has a number and an action in range
rewrites_in_range : (t : Table) (a n : ℕ) (g h : Term) → T (ok_table t) → RewritesBy t a n g h → (n < 256) × (a < 65536)
rewrites_in_range t a n g h x w =
    let i = named_below t n w.rule w.numbered in
    let j = few_rules t x in
    let k = (good w.rule (rule_okay t x n w.rule w.numbered)).action in
    let e = w.carries in (omega arith, omega arith)

-- ---- the reasons
listed_in_range : (o : Outcome ReasonsResult) → NumberWithin 5 o → ((n : ℕ) → o ≡ gives (not_stuck n) → n < 256) → ReasonsInRange (reasons_answer o)
unfolding reasons_answer
listed_in_range (refused why) e f = e
listed_in_range (gives (listed os)) e f = tt
listed_in_range (gives (not_stuck n)) e f = f n refl

abbrev list_rows : List ℤ → ℕ → List Row
list_rows table list = short_row (ReasonsShort table list) ∷ []

module _ {ws cs list list' : List ℤ} {r : Result (StdOption ℕ) Refusal} where
  pub reasons_in_range : ReasonsContract ws cs list list' r → ReasonsInRange r
  unfolding number
  reasons_in_range c =
      subst⁻¹ ReasonsInRange c.answer (listed_in_range c.outcome (early_number ws cs (list_rows ws (length list)) c.outcome (lit≤ tt, tt) c.refuses) rules)
    where
      rules : (n : ℕ) → c.outcome ≡ gives (not_stuck n) → n < 256
      rules n e =
          let w = words_read ws cs (list_rows ws (length list)) c.outcome (not_stuck n) e c.refuses in
          let s = ((c.claim.meets w.0 w.1 (not_stuck n) w.2 w.3 e).otherwise n).0 refl in
          (rewrites_in_range w.0 s.0 n w.1 s.1 w.2.accepted s.2.rewrites).0

-- ---- the step and the step by one given rule
out_limit_lem : (out : ℕ) → out_limit out ≤ max_nodes
out_limit_lem out = omega arith

-- what an outcome that steps has to tell
abbrev Steps : Outcome StepResult → Type 0
Steps o = (n a : ℕ) (h : Term) → o ≡ gives (stepped n a h) → (n < 256) × (a < 65536) × (node_count h ≤ max_nodes)

answer_in_range : (o : Outcome StepResult) → NumberWithin 5 o → Steps o → StepInRange (step_answer o)
unfolding step_answer number
answer_in_range (refused why) e f = omega arith
answer_in_range (gives (stepped n a h)) e f = f n a h refl
answer_in_range (gives stuck) e f = tt
answer_in_range (gives too_large) e f = lit≤ tt

-- a step is by a rule of the table, and what it makes is no larger than a configuration may be
stepped_in_range : (ws cs : List ℤ) (o : Outcome StepResult) (r : Result (StdOption Stepped) Refusal) → r ≡ step_answer o → FirstGiven (step_rows ws cs) o
    → ((t : Table) (g : Term) (n a : ℕ) (h : Term) → IsTable ws t → IsConfiguration cs g → o ≡ gives (stepped n a h) → RewritesBy t a n g h × (node_count h ≤ max_nodes)) → StepInRange r
stepped_in_range ws cs o r answer first steps =
    subst⁻¹ StepInRange answer (answer_in_range o (early_number ws cs [] o tt first) within)
  where
    within : Steps o
    within n a h e =
        let (t, g, p, q, _) = words_read ws cs [] o (stepped n a h) e first in
        let (w, small) = steps t g n a h p q e in
        let i = rewrites_in_range t a n g h p.accepted w in (i.0, i.1, small)

module _ {ws cs out out' : List ℤ} {r : Result (StdOption Stepped) Refusal} where
  pub step_in_range : StepContract ws cs out out' r → StepInRange r
  step_in_range c =
      stepped_in_range ws cs c.outcome r c.answer c.refuses (λ t g n a h p q e.
      let s = ((c.claim.meets t g (stepped n a h) p q e).steps n a h).0 refl in
      (s.0.rewrites, omega (arith, s.1, out_limit_lem (length out))))

module _ {ws cs : List ℤ} {rule : ℕ} {out out' : List ℤ} {r : Result (StdOption Stepped) Refusal} where
  pub rule_in_range : StepByRuleContract ws cs rule out out' r → StepInRange r
  rule_in_range c =
      stepped_in_range ws cs c.outcome r c.answer c.refuses (λ t g n a h p q e.
      let s = ((c.claim.meets t g (stepped n a h) p q e).steps n a h).0 refl in
      (subst⁻¹ (λ (m : ℕ). RewritesBy t a m g h) s.0 s.1, omega (arith, s.2, out_limit_lem (length out))))

-- ---- the run
ended_in_range : (k : ℕ) (x : Ending) → k ≤ max_steps → RunInRange (Ok (ended_as x k))
ended_in_range k ends_stuck h = h
ended_in_range k ends_spent h = h
ended_in_range k ends_over h = h

counted_in_range : (o : Outcome RunResult) → NumberWithin 5 o → ((x : RunResult) → o ≡ gives x → x.steps ≤ max_steps) → RunInRange (run_answer o)
unfolding run_answer
counted_in_range (refused why) e f = e
counted_in_range (gives x) e f = ended_in_range x.steps x.ending (f x refl)

module _ {ws cs : List ℤ} {budget limit : ℕ} {out spare out' spare' : List ℤ} {r : Result RunAnswer Refusal} where
  pub run_in_range : RunContract ws cs budget limit out spare out' spare' r → RunInRange r
  run_in_range c =
      subst⁻¹ RunInRange c.answer (counted_in_range c.outcome (size_numbers ws cs limit (max_steps < budget) (RunShort limit (length out) (length spare)) c.outcome c.refuses) steps)
    where
      steps : (x : RunResult) → c.outcome ≡ gives x → x.steps ≤ max_steps
      steps x e =
          let w = words_read ws cs (size_rows cs limit (max_steps < budget) (RunShort limit (length out) (length spare))) c.outcome x e c.refuses in
          let k = (c.claim.meets w.0 w.1 x w.2 w.3 e).counts in
          let m = (row_failed (long_row (max_steps < budget)) (limit_row cs limit ∷ short_row (RunShort limit (length out) (length spare)) ∷ []) c.outcome x e w.4).0 in
          omega (arith, m)

-- ---- the replay
replayed_in_range : (o : Outcome (ReplayResult Term)) → NumberWithin 5 o → ReplayInRange (replay_answer o)
unfolding replay_answer number
replayed_in_range (refused why) e = omega arith
replayed_in_range (gives (reproduced ns h)) e = tt
replayed_in_range (gives exceeded) e = lit≤ tt
replayed_in_range (gives not_reproduced) e = tt

module _ {ws cs : List ℤ} {log : List ℕ} {limit : ℕ} {out : List ℤ} {choices : List ℕ} {work out' : List ℤ} {choices' : List ℕ} {work' : List ℤ} {r : Result ReplayAnswer Refusal} where
  pub replay_in_range : ReplayContract ws cs log limit out choices work out' choices' work' r → ReplayInRange r
  replay_in_range c =
      subst⁻¹ ReplayInRange c.answer
      (replayed_in_range c.outcome (size_numbers ws cs limit (max_actions < length log) (ReplayShort limit log (length out) (length choices) (length work)) c.outcome c.refuses))
