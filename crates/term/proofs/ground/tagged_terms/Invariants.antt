-- The terms left to read end where all do, and no dictionary stands in front of them.
use Rattle.std.proofs.Common.{◌-◌, length}
use Rattle.term.proofs.MetLaw.{Tagging}
use Rattle.term.proofs.ground.tagged_terms.Given as goal

abbrev pub invariant-loop-k : goal.invariant-loop-k
invariant-loop-k l = Tagging l.s l.at l.count l.i l.k

abbrev pub decreases-loop-k : goal.decreases-loop-k
decreases-loop-k l = length l.s - l.i
