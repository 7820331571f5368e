use Rattle.replay.specs.Reading.{table_of}
use Rattle.replay.specs.Turns.{left_of}
use Rattle.replay.proofs.FindLaw.{Searching}
use Rattle.replay.proofs.search.Search.find.Given as goal

-- at the loop's head the search will say what it would have said at first
abbrev pub invariant-loop-next : goal.invariant-loop-next
invariant-loop-next l = Searching l.self.table.words.now l.self.rules l.self.room l.self.log.now l.fn.out l.fn.work l.out l.work l.over l.depth

-- the turns left
abbrev pub decreases-loop-next : goal.decreases-loop-next
decreases-loop-next l = left_of (table_of l.self.table.words.now) l.self.room l.self.log.now l.work l.depth
