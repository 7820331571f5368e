-- six texts, one behind the other
use native.Mathlib.Omega.{arith}
use Rattle.cli.proofs.TextTurn.{puts_reproduced}
use Rattle.cli.proofs.print.put_reproduced.Goals as goal

pub returns : goal.returns
returns c =
    puts_reproduced _ _ _ _ _ _ _ _ _ c.put_text.ensures c.put.ensures.puts c.put_more.ensures.puts c.put_text-2.ensures c.put_all.ensures.puts c.put_text-3.ensures
    (omega arith) (omega arith) (omega arith) (omega arith) (omega arith)
