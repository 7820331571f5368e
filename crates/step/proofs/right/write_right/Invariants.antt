-- The words of the items so far, of any rest that stands there, are written.
use Rattle.std.proofs.Common.{◌-◌}
use Rattle.step.proofs.RightLoopLaw.{Writing}
use Rattle.step.proofs.right.write_right.Given as goal

abbrev pub invariant-loop-i : goal.invariant-loop-i
invariant-loop-i l = Writing l.fn.scope.table.now l.fn.scope.configuration.now l.fn.scope.places.now.starts l.fn.scope.places.now.ends l.fn.right.from l.fn.right.to l.initial.out l.i l.o l.out

abbrev pub decreases-loop-i : goal.decreases-loop-i
decreases-loop-i l = l.fn.right.to - l.i
