use Rattle.run.proofs.ReachedLaw.{RunReached}
use Rattle.run.proofs.advance.Given as goal

-- at the loop's head the run is k steps, which led here, and its rest
abbrev pub invariant-loop-k : goal.invariant-loop-k
invariant-loop-k l = RunReached l.game.table.words.now l.game.configuration.words.now l.budget l.limit l.fn.out l.fn.spare l.current.side l.current.nodes l.k l.out l.spare
