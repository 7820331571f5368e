use Rattle.table.proofs.IndexLaw.{action_is}
use Rattle.table.proofs.checked.Rule.action.Goals as goal

pub returns : goal.returns
returns c = action_is c.row.ensures c.args.self.named
