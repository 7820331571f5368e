use Rattle.memory.specs.Memory.{Heads}
use Rattle.memory.proofs.entries.empty.Given as goal

abbrev pub invariant-loop-slot : goal.invariant-loop-slot
invariant-loop-slot l = Heads l.fn.frame l.frame l.width l.slot
