-- The walk, turn by turn.
use Rattle.std.proofs.Common.{arith}
use Rattle.table.proofs.LoopLaw.{loop_start, loop_missed, loop_on, loop_few, loop_nearer, loop_done}
use Rattle.table.proofs.expression.expressions_end.Goals as goal

pub loop-k-init : goal.loop-k-init
loop-k-init g c = loop_start _ _ _ _ _ _ c.requires.0 c.requires.1

pub expression_turn-requires : goal.expression_turn-requires
expression_turn-requires g c = c.loop-k.invariant.reaches.inside

pub returns-in_err-turn : goal.returns-in_err-turn
returns-in_err-turn g c = rw c.from_residual.ensures (loop_missed c.loop-k.invariant c.loop-k-test.true _ c.in_err-turn.ensures)

pub overflow_add-k : goal.overflow_add-k
overflow_add-k g c = let f = loop_few c.loop-k.invariant c.loop-k-test.true c.in_ok-turn.ensures in omega arith

pub loop-k-preserved : goal.loop-k-preserved
loop-k-preserved g c = loop_on c.loop-k.invariant c.loop-k-test.true c.in_ok-turn.ensures

pub loop-k-smaller : goal.loop-k-smaller
loop-k-smaller g c = loop_nearer c.loop-k.invariant c.loop-k-test.true c.in_ok-turn.ensures

pub returns : goal.returns
returns g c = loop_done c.loop-k.invariant (omega arith)
