-- What the routines below `answer` leave in the output.
use Rattle.std.specs.Prelude.{◌≡◌, List, [], ℕ, None, ⊤, Result, Ok, Err}
use Rattle.minuska.specs.Term.{Term}
use Rattle.minuska.specs.declared.Refusal.{Refusal}
use Rattle.minuska.specs.Answer.{Outcome, ReplayResult}
use Rattle.decimal.specs.declared.print.Text.{Text}
use Rattle.decimal.specs.Computed.Put.{Puts}
use Rattle.cli.specs.Output.{answer_text, refused_text}
use Rattle.cli.specs.Computed.Lines.{request_in}

-- the answer's text was put; or a refusal is told, whose text the answer is, and nothing was put
abbrev pub Answers : Text → Outcome (ReplayResult Term) → Text → Result ⊤ Refusal → Type 0
Answers before o after (Ok u) = Puts before (answer_text o) after
Answers before o after (Err why) = Puts before [] after × (answer_text o ≡ refused_text why)

-- the input is no request, and nothing was put
pub record Unread (input : List ℕ) (before after : Text) : Type 0 where
  pub no_request : request_in input ≡ None
  pub puts : Puts before [] after
