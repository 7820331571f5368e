use Rattle.std.proofs.Common.{◌-◌, length, not, nat_eq}
use Rattle.table.proofs.LoopLaw.{SideSoFar}
use Rattle.table.specs.Node.{side_level}
use Rattle.table.proofs.side.side_end.Given as goal

-- k terms of the side are still to come at i, and what is passed over has the sizes counted
abbrev pub invariant-loop-k : goal.invariant-loop-k
invariant-loop-k g l = SideSoFar (not (nat_eq g.row.MIXED 0)) l.table (side_level (not (nat_eq g.row.LEFT 0))) l.at l.fn.seen l.i l.k l.sizes.fixed l.sizes.leaves l.met l.seen

abbrev pub decreases-loop-k : goal.decreases-loop-k
decreases-loop-k g l = length l.table - l.i
