-- THE CONTRACT of `answer`.
use Rattle.std.specs.Prelude.{◌≡◌, Bool, true, false, ◌↔◌, List, [], ℕ, leb, length, Option, Some}
use Rattle.minuska.specs.Term.{Term}
use Rattle.minuska.specs.declared.Refusal.TheVariants.{Unreadable}
use Rattle.minuska.specs.Answer.{Outcome, refused, ReplayResult}
use Rattle.minuska.specs.Claim.{ReplayClaim, Meets, FirstGiven, replay_rows}
use Rattle.minuska.specs.Slice.{write}
use Rattle.cli.specs.Input.{Request, IsInput}
use Rattle.cli.specs.Output.{answered, answer_text}

-- Every answer is shorter.
abbrev pub max_output : ℕ
max_output = 28672

-- The text where the output slice holds every answer; in a shorter one nothing.
abbrev pub fitted : Bool → List ℕ → List ℕ
fitted true text = text
fitted false text = []

-- An output slice has its name at entry, and a prime at exit.
pub record AnswerContract (input output output' : List ℕ) (r : ℕ) : Type 0 where
  pub request : Option Request
  -- the input is taken exactly if it is the text of a request, and then as that request
  pub reads : (q : Request) → (request ≡ Some q) ↔ IsInput input q
  pub outcome : Outcome (ReplayResult Term)
  pub is : outcome ≡ answered request
  -- "7, which the desk gives before all", "its text is not as below"
  pub unreadable : (outcome ≡ refused Unreadable) ↔ ((q : Request) → IsInput input q → ⊥)
  -- demand 3, and the other numbers
  pub claim : (q : Request) → IsInput input q → Meets q.table q.configuration (λ t g. ReplayClaim t q.limit q.log g) outcome
  pub refuses : (q : Request) → IsInput input q → FirstGiven (replay_rows q.table q.configuration q.log q.limit 1024 256 4096) outcome
  -- the text stands at the start of the output slice, bytes behind it keep, and its length is returned
  pub text : List ℕ
  pub says : text ≡ fitted (leb max_output (length output)) (answer_text outcome)
  pub leaves : output' ≡ write text output
  pub counts : r ≡ length text
