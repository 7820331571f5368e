-- What the step by one rule tells of its successor, and what it leaves in out: read off its contract.
use mathlib.Core.Path.{◌≡◌, refl, ap, ◌∙◌, subst}
use mathlib.Core.Bool.{true, false}
use mathlib.Core.Option.{Option, none, some}
use mathlib.Core.List.{List, [], ◌∷◌, ◌++◌, append_assoc}
use Prim.Native.Nat.{ℕ, ◌*◌, ◌≤◌}
use native.Mathlib.Omega.{arith}
use lib.Dec.{leb}
use lib.IntN.{ℤ}
use lib.ListN.{length, take, drop, length-append, length-drop, take-append-drop}
use lib.Seq.{length-take-le, take_at, drop_at}
use borrow.Author.Tests.{leb-true, le-leb, lt-leb}
use Rattle.minuska.specs.Term.{Term, single, node_count}
use Rattle.minuska.specs.Word.{encode}
use Rattle.minuska.specs.Rule.{Table, IsTable, IsConfiguration}
use Rattle.minuska.specs.Answer.{Outcome, gives, StepResult, stepped, stuck, too_large}
use Rattle.minuska.specs.Contract.{StepByRuleContract}
use Rattle.minuska.specs.Claim.{RuleClaim, table_row, configuration_row}
use Rattle.minuska.specs.Slice.{out_limit, step_answer, step_out}
use Rattle.minuska.specs.Computed.Step.{next}
use Rattle.minuska.specs.declared.Refusal.{Refusal}
use Rattle.minuska.specs.declared.Stepped.{Stepped}
use Rattle.std.specs.Prelude as Std
use Rattle.std.specs.Prelude.{Result, Ok, Err, Some, None}
use Rattle.minuska.proofs.Bridge.AcceptedLaw.{term_length}
use Rattle.minuska.proofs.RefusalLaw.{row_passed}
use Rattle.minuska.proofs.ReplayLaw.{NextTold, next_told}
use Rattle.replay.specs.Turns.{Carries, TryContract}

-- a successor within the limit fits
pub limit_words : (room k : ℕ) → leb k (out_limit room) ≡ true → 2 * k ≤ room
limit_words room k e = let h = leb-true k (out_limit room) e in omega arith

abbrev pub Answer : Type 0
Answer = Result (Std.Option Stepped) Refusal

-- the step by one rule, into the first words of out
pub tried : (ws cs cs' : List ℤ) (n n' room : ℕ) (out front : List ℤ) (r : Answer) → cs' ≡ cs → n' ≡ n → StepByRuleContract ws cs' n' (take room out) front r → TryContract ws cs n room out (front ++ drop room out) r
tried ws cs cs' n n' room out front r ec en k = record { front = front; steps = rw (ec, en) at k; leaves = refl }

-- by the answer: the successor, and out
abbrev pub Told : Option Term → ℕ → List ℤ → Answer → Type 0
Told x room out' (Ok None) = x ≡ none
Told x room out' (Ok (Some s)) = (h : Term) × (x ≡ some h) × (leb (node_count h) (out_limit room) ≡ true) × (node_count h ≡ s.nodes) × (take (2 * s.nodes) out' ≡ encode (single h))
Told x room out' (Err r) = (h : Term) × (x ≡ some h) × (leb (node_count h) (out_limit room) ≡ false)

pub record Tells (x : Option Term) (room : ℕ) (out out' : List ℤ) (r : Answer) : Type 0 where
  pub told : Told x room out' r
  pub wide : length out' ≡ length out
  pub kept : drop room out' ≡ drop room out

module _ (room : ℕ) (out : List ℤ) (fits : room ≤ length out) where
  abbrev After : Outcome StepResult → List ℤ
  After y = step_out y (take room out) ++ drop room out

  unchanged : take room out ++ drop room out ≡ out
  unchanged = take-append-drop room out

  -- words written at the start of the first `room`
  module _ (ws : List ℤ) (few : length ws ≤ room) where
    front : List ℤ
    front = ws ++ drop (length ws) (take room out)

    front_long : length front ≡ room
    unfolding front
    front_long =
        let e = length-take-le room out fits in
        length-append ws (drop (length ws) (take room out)) ∙ (let f = length-drop (length ws) (take room out) in omega arith)

    front_wide : length (front ++ drop room out) ≡ length out
    front_wide = length-append front (drop room out) ∙ (let e = front_long in let f = length-drop room out in omega arith)

    front_kept : drop room (front ++ drop room out) ≡ drop room out
    front_kept = drop_at front (drop room out) room front_long

    front_words : (k : ℕ) → length ws ≡ k → take k (front ++ drop room out) ≡ ws
    unfolding front
    front_words k e = ap (take k) (append_assoc ws (drop (length ws) (take room out)) (drop room out)) ∙ take_at ws (drop (length ws) (take room out) ++ drop room out) k e

  tells : (o : Option Term) (x : StepResult) → NextTold o (out_limit room) x → Tells o room out (After (gives x)) (step_answer (gives x))
  unfolding step_answer step_out front
  tells o stuck e = record { told = e; wide = ap length unchanged; kept = ap (drop room) unchanged }
  tells o (stepped n a h) e =
      let fit = le-leb (node_count h) (out_limit room) e.1 in
      let few : length (encode (single h)) ≤ room = let k = limit_words room (node_count h) fit in omega (arith, term_length h) in
      record { told = (h, e.0, fit, refl, front_words (encode (single h)) few (2 * node_count h) (term_length h)); wide = front_wide (encode (single h)) few; kept = front_kept (encode (single h)) few }
  tells o too_large e =
      record { told = (e.0, e.1, lt-leb (node_count e.0) (out_limit room) e.2); wide = ap length unchanged; kept = ap (drop room) unchanged }

-- WHAT A TRIED RULE TELLS, where it carries the action
pub tried_tells : (ws cs : List ℤ) (t : Table) (g : Term) → IsTable ws t → IsConfiguration cs g → (a n room : ℕ) → Carries t a n → (out out' : List ℤ) (r : Answer) → room ≤ length out
    → TryContract ws cs n room out out' r → Tells (next t a n g) room out out' r
tried_tells ws cs t g p q a n room c out out' r h k =
    let s = k.steps in
    let (x, e) = row_passed (configuration_row cs) [] s.outcome (row_passed (table_row ws) (configuration_row cs ∷ []) s.outcome s.refuses (λ f. f t p)) (λ f. f g q) in
    let m : RuleClaim t (out_limit room) n g x = subst (λ (l : ℕ). RuleClaim t (out_limit l) n g x) (length-take-le room out h) (s.claim.meets t g x p q e) in
    let told = next_told t p.accepted a n c.rule c.named c.acts (out_limit room) g x m in
    rw (s.answer ∙ ap step_answer e, k.leaves, s.leaves ∙ ap (λ (o : Outcome StepResult). step_out o (take room out)) e) (tells room out h (next t a n g) x told)
