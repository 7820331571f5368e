-- A position names a rule.
use Rattle.table.proofs.IndexLaw.{position_names}
use Rattle.table.proofs.checked.Table.candidate.Goals as goal

pub invariant_of-rule : goal.invariant_of-rule
invariant_of-rule c = record { named = position_names c.args.self.indexed c.requires.0 c.if-to-position.false c.ordered.ensures }
