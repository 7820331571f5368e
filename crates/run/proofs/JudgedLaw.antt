-- What a step's answer comes to is what the run does: one step more, or its end.
use mathlib.Core.Path.{◌≡◌, refl, sym, ◌∙◌, ap}
use mathlib.Core.Bool.{Bool, true, false}
use Prim.Native.Nat.{ℕ, suc, ◌+◌, ◌-◌, ◌≤◌, ◌<◌}
use native.Mathlib.Nat.{add-zero, zero-add}
use native.Mathlib.Omega.{arith}
use lib.Dec.{ltb}
use borrow.Author.Tests.{ltb-true, ltb-false}
use Rattle.minuska.specs.declared.RunAnswer.{RunAnswer}
use Rattle.minuska.specs.Term.{Term, node_count}
use Rattle.minuska.specs.Rule.{Table}
use Rattle.minuska.specs.Answer.{gives, StepResult, stepped, stuck, too_large, Ending, ends_stuck, ends_spent, ends_over, RunResult}
use Rattle.minuska.specs.Slice.{step_answer, ended_as, run_answer}
use Rattle.minuska.specs.Computed.Step.{step}
use Rattle.minuska.specs.Computed.Run.{ended_at, one_more, last_turn, turn, run}
use Rattle.minuska.proofs.ShutLaw.{run_zero_is, run_suc_is}
use Rattle.std.specs.declared.ops.ControlFlow.TheVariants.{Continue, Break}
use Rattle.std.specs.Prelude.{Result, Ok}
use Rattle.minuska.specs.declared.Refusal.{Refusal}
use Rattle.run.specs.Sides.{judged}

-- a run with k steps before it
abbrev pub after : ℕ → RunResult → RunResult
after k x = record { steps = k + x.steps; last = x.last; ending = x.ending }

pub after_none : (x : RunResult) → after 0 x ≡ x
after_none x = rw (zero-add x.steps)

after_one : (k : ℕ) (x : RunResult) → after k (one_more x) ≡ after (k + 1) x
after_one k x = let e : k + suc x.steps ≡ k + 1 + x.steps = omega arith in rw e

-- A successor, where the budget is not used up.
pub record Succeeds (y : StepResult) (nodes k budget : ℕ) : Type 0 where
  pub rule : ℕ
  pub action : ℕ
  pub successor : Term
  pub is : y ≡ stepped rule action successor
  pub counts : node_count successor ≡ nodes
  pub early : k < budget

module _ (k budget : ℕ) where
  pub succeeds : (y : StepResult) (nodes : ℕ) → judged (step_answer (gives y)) k budget ≡ Continue nodes → Succeeds y nodes k budget
  unfolding step_answer
  succeeds y nodes j = by y (ltb k budget) refl j
    where
      by : (y : StepResult) (b : Bool) → ltb k budget ≡ b → judged (step_answer (gives y)) k budget ≡ Continue nodes → Succeeds y nodes k budget
      by (stepped n a h) true l j = let i = rw l at j in record { rule = n; action = a; successor = h; is = refl; counts = (cc); early = ltb-true k budget l }
      by (stepped n a h) false l j = let i = rw l at j in cc
      by stuck b l j = cc
      by too_large true l j = let i = rw l at j in cc
      by too_large false l j = let i = rw l at j in cc

  module _ (t : Table) (limit : ℕ) (g : Term) where
    abbrev rest : RunResult
    rest = run t limit (budget - k) g

    goes_on : k < budget → rest ≡ turn g (λ h. run t limit (budget - (k + 1)) h) (step t limit g)
    goes_on h = let e : budget - k ≡ suc (budget - (k + 1)) = omega arith in rw e (run_suc_is t limit (budget - (k + 1)) g)

    is_over : budget ≤ k → rest ≡ last_turn g (step t limit g)
    is_over h = let e : budget - k ≡ 0 = omega arith in rw e (run_zero_is t limit g)

    -- ONE STEP MORE
    pub steps_on : (n a : ℕ) (h : Term) → step t limit g ≡ stepped n a h → k < budget → after k (run t limit (budget - k) g) ≡ after (k + 1) (run t limit (budget - (k + 1)) h)
    steps_on n a h e l = ap (after k) (goes_on l ∙ rw e) ∙ after_one k (run t limit (budget - (k + 1)) h)

    -- THE END
    abbrev EndsAs : RunAnswer → Type 0
    EndsAs answer = (Ok answer ≡ run_answer (gives (after k (run t limit (budget - k) g)))) × ((run t limit (budget - k) g).last ≡ g)

    abbrev ok : RunAnswer → Result RunAnswer Refusal
    ok x = Ok x

    ends_at : (e : Ending) (answer : RunAnswer) → rest ≡ ended_at g e → ended_as e k ≡ answer → EndsAs answer
    unfolding run_answer
    ends_at e answer q a = (ap ok (sym a) ∙ rw (q, add-zero k), rw q)

    pub ends : (y : StepResult) (answer : RunAnswer) → step t limit g ≡ y → judged (step_answer (gives y)) k budget ≡ Break answer → EndsAs answer
    unfolding step_answer
    ends y answer e j = by y e (ltb k budget) refl j
      where
        by : (y : StepResult) → step t limit g ≡ y → (b : Bool) → ltb k budget ≡ b → judged (step_answer (gives y)) k budget ≡ Break answer → EndsAs answer
        by (stepped n a h) e true l j = let i = rw l at j in cc
        by (stepped n a h) e false l j = ends_at ends_spent answer (is_over (ltb-false k budget l) ∙ rw e) (let i = rw l at j in cc)
        by stuck e true l j = ends_at ends_stuck answer (goes_on (ltb-true k budget l) ∙ rw e) (cc)
        by stuck e false l j = ends_at ends_stuck answer (is_over (ltb-false k budget l) ∙ rw e) (cc)
        by too_large e true l j = ends_at ends_over answer (goes_on (ltb-true k budget l) ∙ rw e) (let i = rw l at j in cc)
        by too_large e false l j = ends_at ends_spent answer (is_over (ltb-false k budget l) ∙ rw e) (let i = rw l at j in cc)
