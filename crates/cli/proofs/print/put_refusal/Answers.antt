-- three texts, one behind the other
use native.Mathlib.Omega.{arith}
use Rattle.cli.proofs.TextTurn.{puts_refused}
use Rattle.cli.proofs.print.put_refusal.Goals as goal

pub returns : goal.returns
returns c = puts_refused c.args.refusal _ _ _ _ c.put_text.ensures (rw c.from.ensures at c.put.ensures.puts) c.put_text-2.ensures (omega arith) (omega arith)
