use Rattle.std.proofs.Common.{◌-◌, length, not, nat_eq}
use Rattle.table.proofs.LoopLaw.{SoFar}
use Rattle.table.specs.Level.{Expression}
use Rattle.table.proofs.expression.expressions_end.Given as goal

-- of the terms, k are still to come at i
abbrev pub invariant-loop-k : goal.invariant-loop-k
invariant-loop-k g l = SoFar (not (nat_eq g.row.MIXED 0)) l.table Expression l.at l.count l.fn.seen l.i l.k l.met l.seen

abbrev pub decreases-loop-k : goal.decreases-loop-k
decreases-loop-k g l = length l.table - l.i
