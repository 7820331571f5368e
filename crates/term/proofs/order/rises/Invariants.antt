-- The entries left to look at rise exactly if all do.
use Rattle.std.proofs.Common.{◌+◌, ◌-◌}
use Rattle.term.proofs.OrderLaw.{Rising}
use Rattle.term.proofs.order.rises.Given as goal

abbrev pub invariant-loop : goal.invariant-loop
invariant-loop l = Rising l.s l.at l.count l.i (l.count + 1 - l.counter)
