use Rattle.std.proofs.Common.{arith, rules}
use Rattle.step.proofs.RightLoopLaw.{writing_first, all_written, writing_fits, writing_on, writing_forward, writing_within}
use Rattle.step.proofs.right.write_right.Goals as goal

pub loop-i-init : goal.loop-i-init
loop-i-init c = writing_first _ _ _ _ _ _ _

pub offset_bounds-out-o : goal.offset_bounds-out-o
offset_bounds-out-o c = let h = writing_within _ _ _ _ _ _ _ _ _ _ c.loop-i.invariant c.requires in search rules

pub slice_bounds-write_item-count : goal.slice_bounds-write_item-count
slice_bounds-write_item-count c = omega (arith, writing_within _ _ _ _ _ _ _ _ _ _ c.loop-i.invariant c.requires)

pub slice_bounds-write_item-start : goal.slice_bounds-write_item-start
slice_bounds-write_item-start c = let h = writing_within _ _ _ _ _ _ _ _ _ _ c.loop-i.invariant c.requires in search rules

pub write_item-x-requires : goal.write_item-x-requires
write_item-x-requires c = writing_fits _ _ _ _ _ _ _ _ _ _ c.loop-i.invariant c.requires c.loop-i-test.true

pub loop-i-smaller : goal.loop-i-smaller
loop-i-smaller c = omega (arith, writing_forward _ _ _ _ _ _ _ _ _ _ c.loop-i.invariant _ _ c.write_item-x.ensures.item c.requires.rest)

pub loop-i-preserved : goal.loop-i-preserved
loop-i-preserved c = writing_on _ _ _ _ _ _ _ _ _ _ c.loop-i.invariant _ _ c.write_item-x.ensures.item _ _ c.write_item-x.ensures.puts

pub returns : goal.returns
returns c = all_written _ _ _ _ _ _ _ _ _ _ c.loop-i.invariant c.loop-i-test.false
