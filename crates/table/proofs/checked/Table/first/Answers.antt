-- The positions up to the rule count are there.
use Rattle.std.proofs.Common.{arith}
use Rattle.table.proofs.IndexLaw.{positions_of}
use Rattle.table.proofs.checked.Table.first.Goals as goal

pub candidate-requires : goal.candidate-requires
candidate-requires c = (positions_of _ _ _ c.rules.ensures (omega arith), omega arith)
