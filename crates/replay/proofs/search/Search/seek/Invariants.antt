use Rattle.replay.specs.Reading.{table_of}
use Rattle.replay.specs.Turns.{Skipped}
use Rattle.replay.proofs.search.Search.seek.Given as goal

abbrev pub invariant-loop-position : goal.invariant-loop-position
invariant-loop-position l = Skipped (table_of l.self.table.words.now) l.action l.from l.position
