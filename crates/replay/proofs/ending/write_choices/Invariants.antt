use Rattle.std.proofs.Common.{◌≡◌, ◌++◌, drop}
use Rattle.minuska.specs.Computed.Step.{order}
use Rattle.replay.specs.Reading.{table_of}
use Rattle.replay.specs.Stack.{chosen}
use Rattle.replay.specs.Turns.{position_at}
use Rattle.replay.proofs.ending.write_choices.Given as goal

abbrev pub invariant-loop-i : goal.invariant-loop-i
invariant-loop-i l = l.chosen ≡ chosen (order (table_of l.search.table.words.now)) (position_at l.search.room l.work) l.i ++ drop l.i l.initial.chosen
