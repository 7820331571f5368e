-- So many conditions hold, and the rest stands from place i on.
use Rattle.std.proofs.Common.{◌-◌, ◌≤◌}
use Rattle.step.proofs.ConditionsLaw.{Holding}
use Rattle.step.proofs.conditions.hold_all.Given as goal

abbrev pub invariant-loop-i : goal.invariant-loop-i
invariant-loop-i l = (l.held ≤ l.i) × Holding l.scope.table.now l.scope.configuration.now l.scope.places.now.starts l.scope.places.now.ends l.conditions.from l.conditions.to l.i l.held

abbrev pub decreases-loop-i : goal.decreases-loop-i
decreases-loop-i l = l.conditions.to - l.i
