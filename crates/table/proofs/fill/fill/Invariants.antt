use Rattle.std.proofs.Common.{◌++◌, drop}
use Rattle.table.proofs.FillLaw.{Reached}
use Rattle.table.proofs.fill.fill.Given as goal

-- rule number `row-index` is to be read at a place
abbrev pub invariant-loop-row : goal.invariant-loop-row
invariant-loop-row l = Reached l.table l.fn.rows (l.row-items ++ drop l.count l.fn.rows) l.count l.row-index l.at
