-- One rule at one configuration, put together: its outcome, its verdict and its successor.
use Rattle.std.specs.Prelude.{Result, Ok, Err, Option as StdOption, Some}
use Rattle.minuska.specs.declared.Refusal.{Refusal}
use Rattle.minuska.specs.declared.Stepped.{Stepped}
use mathlib.Core.Path.{◌≡◌, refl, sym, ◌∙◌, ap}
use mathlib.Core.Bool.{Bool, true, false, cond}
use mathlib.Core.Logic.{◌↔◌}
use mathlib.Core.Option.{Option, none, some}
use mathlib.Core.List.{List}
use Prim.Native.Nat.{ℕ, ◌*◌, ◌≤◌, ◌<◌}
use native.Mathlib.Omega.{arith}
use lib.IntN.{ℤ}
use lib.Dec.{leb}
use lib.ListN.{length}
use borrow.Author.Tests.{le-leb, lt-leb, leb-true, leb-false}
use Rattle.minuska.specs.Basics.{◌>>=◌}
use Rattle.minuska.specs.Term.{Term, single, node_count}
use Rattle.minuska.specs.Word.{encode}
use Rattle.minuska.specs.Satisfaction.{Valuation}
use Rattle.minuska.specs.Rule.{Rule, Table, IsTable, IsConfiguration}
use Rattle.minuska.specs.Slice.{out_limit, step_answer, step_out, write}
use Rattle.minuska.specs.declared.Refusal.TheVariants.{OverLimit}
use Rattle.minuska.specs.Answer.{Outcome, gives, StepResult, stepped, too_large}
use Rattle.minuska.specs.Computed.Match.{try_match, unbound}
use Rattle.minuska.specs.Computed.Value.{value, hold_all}
use Rattle.minuska.specs.Computed.Step.{successor, successor_by, answered, with_number, sized, step_by_rule}
use Rattle.minuska.specs.Computed.Outcome.{rule_outcome}
use Rattle.minuska.proofs.ShutLaw.{step_by_rule_is, rule_outcome_is}
use Rattle.minuska.proofs.OutcomeLaw.{on_words_lem}
use Rattle.minuska.proofs.Bridge.AcceptedLaw.{term_length}
use Rattle.minuska.proofs.StepLaw.{rule_okay}
use Rattle.minuska.specs.Obstacle.{Reason}
use Rattle.minuska.specs.Computed.Reasons.{reason}
use Rattle.minuska.proofs.ObstacleLaw.{none_applies}
use Rattle.step.specs.Apply.{Candidate, instantiated_as, instantiated_out}
use Rattle.step.specs.Verdict.{verdict_for, verdict_of}

-- ---- whether there is room, in nodes
module _ (limit : ℕ) (h : Term) (b : Bool) (e : b ≡ leb (length (encode (single h))) (2 * limit)) where
  pub too_large_lem : b ≡ false → limit < node_count h
  too_large_lem t = omega (arith, term_length h, leb-false (length (encode (single h))) (2 * limit) (sym e ∙ t))

  pub words_fit : b ≡ true → node_count h ≤ limit
  words_fit t = omega (arith, term_length h, leb-true (length (encode (single h))) (2 * limit) (sym e ∙ t))

module _ (limit n a : ℕ) (h : Term) (out : List ℤ) where
  pub as_large : limit < node_count h → (Err OverLimit ≡ instantiated_as limit n a h) × (out ≡ instantiated_out limit h out)
  unfolding instantiated_as instantiated_out
  as_large x = (rw (lt-leb (node_count h) limit x), rw (lt-leb (node_count h) limit x))

  pub as_stepped : node_count h ≤ limit → (Ok (record { rule = n; action = a; nodes = node_count h }) ≡ instantiated_as limit n a h) × (write (encode (single h)) out ≡ instantiated_out limit h out)
  unfolding instantiated_as instantiated_out
  as_stepped x = (rw (le-leb (node_count h) limit x), rw (le-leb (node_count h) limit x))

-- ---- the outcome of a rule that does not apply, and of one that does
module _ (ws cs : List ℤ) (n : ℕ) (out : List ℤ) where
  pub outcome_by : (t : Table) (g : Term) → IsTable ws t → IsConfiguration cs g → rule_outcome ws cs n (length out) ≡ gives (answered t (out_limit (length out)) (with_number n (successor_by t n g)))
  outcome_by t g p q =
      rule_outcome_is ws cs n (length out) ∙
      (on_words_lem ws cs t g p q (λ u h. gives (step_by_rule u (out_limit (length out)) n h)) ∙
      ap {B = Outcome StepResult} gives (step_by_rule_is t (out_limit (length out)) n g))

-- ---- an answer with a successor, as a step gives it
abbrev pub step_by : Result Stepped Refusal → Result (StdOption Stepped) Refusal
step_by (Ok s) = Ok (Some s)
step_by (Err r) = Err r

module _ (limit n a : ℕ) (h : Term) (out : List ℤ) where
  pub instantiated_answer : step_by (instantiated_as limit n a h) ≡ step_answer (gives (sized limit n a h))
  unfolding instantiated_as step_answer
  instantiated_answer = pick (leb (node_count h) limit)
    where
      pick : (b : Bool) → step_by (cond b (Ok (record { rule = n; action = a; nodes = node_count h })) (Err OverLimit)) ≡ step_answer (gives (cond b (stepped n a h) too_large))
      pick true = refl
      pick false = refl

  pub instantiated_out_lem : instantiated_out limit h out ≡ step_out (gives (sized limit n a h)) out
  unfolding instantiated_out step_out
  instantiated_out_lem = pick (leb (node_count h) limit)
    where
      pick : (b : Bool) → cond b (write (encode (single h)) out) out ≡ step_out (gives (cond b (stepped n a h) too_large)) out
      pick true = refl
      pick false = refl

-- ---- the successor, by the obstacle
module _ (ws cs : List ℤ) (n : ℕ) (rule : Rule) (g : Term) (a : Candidate ws cs n rule g) where
  by_rule : (s : Option Term) → successor rule g ≡ s → successor_by a.table n g ≡ s
  by_rule s e = ap (λ (z : Option Rule). z >>= λ q. successor q g) a.numbered ∙ e

  pub unmatched : try_match (single rule.left) (single g) unbound ≡ none → successor_by a.table n g ≡ none
  unmatched e = by_rule none (ap (λ (o : Option Valuation). o >>= λ ρ. cond (hold_all ρ rule.conditions) (value ρ rule.right) none) e)

  -- it applies exactly if it has a successor
  pub verdict_applies : {u : Unit {0}} → (verdict_of rule g ≡ Ok u) ↔ ((h : Term) × (successor rule g ≡ some h))
  verdict_applies {u} =
      let x = none_applies rule g (rule_okay a.table a.is.accepted n rule a.numbered) in
      (λ e. x.0 (pick (reason rule g) e), λ s. ap verdict_for (x.1 s))
    where
      pick : (o : Option Reason) → verdict_for o ≡ Ok u → o ≡ none
      pick none e = refl
      pick (some o) e = cc
