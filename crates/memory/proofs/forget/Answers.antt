use Rattle.std.proofs.Common.{arith}
use Rattle.memory.proofs.LayoutLaw.{forgets_more, frame_before}
use Rattle.memory.proofs.forget.Goals as goal

pub loop-i-preserved : goal.loop-i-preserved
loop-i-preserved c =
    let a = c.args in
    rw (c.put.ensures, c.base_at.ensures) (forgets_more a.room a.work.now c.loop-i.work c.loop-i.i (omega (arith, frame_before a.room c.loop-i.i a.actions (omega arith))) c.loop-i.invariant)
