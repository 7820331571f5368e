-- one number more
use native.Mathlib.Omega.{arith}
use Rattle.decimal.proofs.PrintTurn.{puts_more}
use Rattle.decimal.proofs.print.Text.put_more.Goals as goal

pub loop-number-preserved : goal.loop-number-preserved
loop-number-preserved g c = record {
  puts = puts_more _ _ _ _ _ _ _ _ c.loop-number.invariant.puts c.put_text.ensures c.put.ensures.puts c.number-item.is (omega arith) (omega arith);
  room = omega arith;
}
