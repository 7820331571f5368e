-- The words of the obstacles before this one are written.
use Rattle.step.proofs.PuttingLaw.{Putting}
use Rattle.step.proofs.reason.put_all.Given as goal

abbrev pub invariant-loop-rule : goal.invariant-loop-rule
invariant-loop-rule l = Putting l.obstacles l.initial.list l.list l.rule
