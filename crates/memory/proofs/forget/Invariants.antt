use Rattle.memory.specs.Layout.{Forgets}
use Rattle.memory.proofs.forget.Given as goal

abbrev pub invariant-loop-i : goal.invariant-loop-i
invariant-loop-i l = Forgets l.room l.i l.fn.work l.work
