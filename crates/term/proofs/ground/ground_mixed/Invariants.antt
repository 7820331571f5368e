-- The terms left to read end where all do.
use Rattle.std.proofs.Common.{◌-◌, length}
use Rattle.term.proofs.MetLaw.{Grounding}
use Rattle.term.proofs.ground.ground_mixed.Given as goal

abbrev pub invariant-loop-k : goal.invariant-loop-k
invariant-loop-k l = Grounding l.s l.at l.count l.i l.k

abbrev pub decreases-loop-k : goal.decreases-loop-k
decreases-loop-k l = length l.s - l.i
