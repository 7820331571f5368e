-- The terms left to read end where all do.
use Rattle.std.proofs.Common.{◌-◌, length}
use denote.Param.{number}
use Rattle.term.specs.TermEnd.{walked}
use Rattle.term.specs.contracts.terms_end.{ANY-type}
use Rattle.term.proofs.TermEndLaw.{Walking}
use Rattle.term.proofs.terms_end.Given as goal

abbrev pub invariant-loop-k : goal.invariant-loop-k
invariant-loop-k g l = Walking (walked (ANY-type (number g.row.ANY))) l.s l.at l.count l.i l.k

abbrev pub decreases-loop-k : goal.decreases-loop-k
decreases-loop-k g l = length l.s - l.i
