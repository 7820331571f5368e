-- The walk, turn by turn.
use Rattle.std.proofs.Common.{arith}
use Rattle.table.proofs.LoopLaw.{loop_few, loop_nearer, loop_missed, side_start, side_done, side_turned, side_on, side_few}
use Rattle.table.proofs.side.side_end.Goals as goal

pub loop-k-init : goal.loop-k-init
loop-k-init g c = side_start _ _ _ _ _ c.requires

pub side_turn-requires : goal.side_turn-requires
side_turn-requires g c = c.loop-k.invariant.walked.reaches.inside

pub returns-in_err-turn : goal.returns-in_err-turn
returns-in_err-turn g c = rw c.from_residual.ensures (loop_missed c.loop-k.invariant.walked c.loop-k-test.true _ c.in_err-turn.ensures)

pub overflow_add-sizes : goal.overflow_add-sizes
overflow_add-sizes g c = let f = side_few c.loop-k.invariant c.loop-k-test.true c.in_ok-turn.ensures in omega arith

pub overflow_add-sizes-in-loop-k : goal.overflow_add-sizes-in-loop-k
overflow_add-sizes-in-loop-k g c = let f = side_few c.loop-k.invariant c.loop-k-test.true c.in_ok-turn.ensures in omega arith

pub overflow_add-k : goal.overflow_add-k
overflow_add-k g c =
    let s = c.loop-k.invariant in
    let h = c.loop-k-test.true in
    let f = loop_few s.walked h (side_turned s h c.in_ok-turn.ensures) in
    omega arith

pub loop-k-preserved : goal.loop-k-preserved
loop-k-preserved g c = side_on c.loop-k.invariant c.loop-k-test.true c.in_ok-turn.ensures

pub loop-k-smaller : goal.loop-k-smaller
loop-k-smaller g c =
    let s = c.loop-k.invariant in
    let h = c.loop-k-test.true in
    loop_nearer s.walked h (side_turned s h c.in_ok-turn.ensures)

pub returns : goal.returns
returns g c = side_done c.loop-k.invariant (omega arith)
