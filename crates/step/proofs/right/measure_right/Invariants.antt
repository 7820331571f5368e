-- The items so far, of any rest that stands there, have as many words as room was taken.
use Rattle.std.proofs.Common.{◌-◌, ◌≤◌}
use Rattle.step.proofs.RightLoopLaw.{Measuring}
use Rattle.step.proofs.right.measure_right.Given as goal

abbrev pub invariant-loop-i : goal.invariant-loop-i
invariant-loop-i l = (l.left ≤ l.room) × Measuring l.fn.scope.table.now l.fn.scope.configuration.now l.fn.scope.places.now.starts l.fn.scope.places.now.ends l.fn.right.from l.fn.right.to l.room l.i l.left

abbrev pub decreases-loop-i : goal.decreases-loop-i
decreases-loop-i l = l.fn.right.to - l.i
