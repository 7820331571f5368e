-- an empty log line, and another
use Rattle.std.proofs.Common.{rules}
use Rattle.decimal.proofs.LineTurn.{log_empty, log_other}
use Rattle.decimal.proofs.line.read_log.Goals as goal

pub returns-then-is_empty : goal.returns-then-is_empty
returns-then-is_empty c = log_empty _ _ (search rules)

pub returns : goal.returns
returns c = log_other _ _ _ _ (search rules) c.read_items.ensures
