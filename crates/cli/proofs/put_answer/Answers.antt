-- what is refused, or no request
use native.Mathlib.Omega.{arith}
use mathlib.Core.Path.{sym, ◌∙◌}
use Rattle.cli.proofs.RequestTurn.{puts_refusal}
use Rattle.cli.proofs.put_answer.Goals as goal

pub returns-in-Err : goal.returns-in-Err
returns-in-Err c =
    puts_refusal c.args.input.now c.args.text.now c.answer_input.new.text c.put_refusal.new.text c.answer_input.result c.answer_input.ensures c.in-Err.refusal (sym c.unwrap_or-answered.ensures ∙ c.in-Err.is) c.put_refusal.ensures (omega arith)
