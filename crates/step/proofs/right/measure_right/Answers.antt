use Rattle.std.proofs.Common.{arith}
use Rattle.step.proofs.RightLoopLaw.{measuring_first, measuring_rest, measured, measuring_on, measured_over, measuring_forward}
use Rattle.step.proofs.right.measure_right.Goals as goal

pub loop-i-init : goal.loop-i-init
loop-i-init c = (omega arith, measuring_first _ _ _ _ _ _ _)

pub item_size-x-requires : goal.item_size-x-requires
item_size-x-requires c = (measuring_rest _ _ _ _ _ _ _ _ _ c.loop-i.invariant.1 c.requires, c.loop-i-test.true)

pub returns-then-left-x : goal.returns-then-left-x
returns-then-left-x c = measured_over _ _ _ _ _ _ _ _ _ c.loop-i.invariant.1 _ c.item_size-x.ensures c.if-left-x.true

pub loop-i-smaller : goal.loop-i-smaller
loop-i-smaller c = omega (arith, measuring_forward _ _ _ _ _ _ _ _ _ c.loop-i.invariant.1 _ c.item_size-x.ensures c.requires)

pub loop-i-preserved : goal.loop-i-preserved
loop-i-preserved c = (omega (arith, c.loop-i.invariant.0), measuring_on _ _ _ _ _ _ _ _ _ c.loop-i.invariant.1 _ c.item_size-x.ensures c.if-left-x.false)

pub returns : goal.returns
returns c = measured _ _ _ _ _ _ _ _ _ c.loop-i.invariant.1 c.loop-i-test.false
