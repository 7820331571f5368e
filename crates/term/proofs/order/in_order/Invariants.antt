-- What is left is in order exactly if all is.
use Rattle.term.proofs.OrderLaw.{Ordering}
use Rattle.term.proofs.order.in_order.Given as goal

abbrev pub invariant-loop-i : goal.invariant-loop-i
invariant-loop-i l = Ordering l.s l.from l.to l.i
