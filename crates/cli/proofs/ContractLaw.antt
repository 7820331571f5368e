-- A routine that leaves the text of the answer and returns its length meets the contract of `answer`.
use mathlib.Core.Path.{◌≡◌, refl, sym, ap, ◌∙◌, subst⁻¹}
use mathlib.Core.Logic.{◌↔◌}
use mathlib.Core.List.{List, []}
use Prim.Native.Nat.{ℕ, ◌≤◌, ◌<◌}
use lib.Dec.{leb}
use lib.ListN.{length}
use borrow.Author.Tests.{le-leb, lt-leb}
use Rattle.minuska.specs.Term.{Term}
use Rattle.minuska.specs.declared.Refusal.TheVariants.{Unreadable}
use Rattle.minuska.specs.Answer.{Outcome, refused, ReplayResult}
use Rattle.minuska.specs.Claim.{ReplayClaim, Meets, FirstGiven, replay_rows}
use Rattle.minuska.specs.Slice.{write}
use Rattle.minuska.specs.Computed.Outcome.{replay_outcome}
use Rattle.minuska.proofs.OutcomeLaw.{replay_outcome_lem}
use Rattle.minuska.proofs.RefusalLaw.{replay_refuses}
use Rattle.cli.proofs.CallerLaw.{readable}
use Rattle.std.specs.Prelude.{Option, None, Some}
use Rattle.decimal.specs.declared.print.Text.{Text}
use Rattle.cli.specs.Input.{Request, IsInput}
use Rattle.cli.specs.Output.{answered, answer_text}
use Rattle.cli.specs.Contract.{max_output, fitted, AnswerContract}
use Rattle.cli.specs.Computed.Lines.{request_in}
use Rattle.decimal.specs.Computed.Put.{Wrote, Puts}
use Rattle.cli.proofs.RequestLaw.{request_iff}
use Rattle.decimal.proofs.PutLaw.{wrote_start}

module _ (input : List ℕ) where
  abbrev read : Option Request
  read = request_in input

  -- an input's outcome is its request's
  of_request : (q : Request) → IsInput input q → answered read ≡ replay_outcome q.table q.configuration q.log q.limit 1024 256 4096
  unfolding answered
  of_request q h = ap answered ((request_iff input q).1 h)

  none_read : (o : Option Request) → ((q : Request) → (o ≡ Some q) ↔ IsInput input q) → ((q : Request) → IsInput input q → ⊥) → answered o ≡ refused Unreadable
  unfolding answered
  none_read None iff f = refl
  none_read (Some q) iff f = absurd (f q ((iff q).0 refl))

  unreadable_iff : (answered read ≡ refused Unreadable) ↔ ((q : Request) → IsInput input q → ⊥)
  unreadable_iff = ((λ e q h. readable q.table q.configuration q.log q.limit 1024 256 4096 (sym (of_request q h) ∙ e)), none_read read (request_iff input))

  pub answer_contract : (output output' : List ℕ) (r : ℕ) (text : List ℕ) → text ≡ fitted (leb max_output (length output)) (answer_text (answered read)) → output' ≡ write text output → r ≡ length text → AnswerContract input output output' r
  answer_contract output output' r text says leaves counts =
      record {
        request = read;
        reads = request_iff input;
        outcome = answered read;
        is = refl;
        unreadable = unreadable_iff;
        claim = λ q h. subst⁻¹ (λ (o : Outcome (ReplayResult Term)). Meets q.table q.configuration (λ t g. ReplayClaim t q.limit q.log g) o) (of_request q h) (replay_outcome_lem q.table q.configuration q.log q.limit 1024 256 4096);
        refuses = λ q h. subst⁻¹ (λ (o : Outcome (ReplayResult Term)). FirstGiven (replay_rows q.table q.configuration q.log q.limit 1024 256 4096) o) (of_request q h) (replay_refuses q.table q.configuration q.log q.limit 1024 256 4096);
        text = text;
        says = says;
        leaves = leaves;
        counts = counts;
      }

  -- ---- the returns of `answer`
  pub too_short : (output : List ℕ) → length output < max_output → AnswerContract input output output 0
  too_short output p = answer_contract output output 0 [] (rw (lt-leb max_output (length output) p)) refl refl

  pub written : (output output' : List ℕ) (a b : Text) → a.output.now ≡ output → a.at ≡ 0 → max_output ≤ length output → Puts a (answer_text (answered read)) b → output' ≡ b.output.now → AnswerContract input output output' b.at
  written output output' a b e f room w l =
      let is : Wrote output 0 (answer_text (answered read)) b.output.now b.at = rw (e, f) at w.wrote in
      let (leaves, counts) = wrote_start output (answer_text (answered read)) b.output.now b.at is in
      answer_contract output output' b.at (answer_text (answered read)) (rw (le-leb max_output (length output) room)) (l ∙ leaves) counts
