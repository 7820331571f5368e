-- A number below the rule count names a rule.
use Rattle.table.proofs.IndexLaw.{unnamed_past, names_below}
use Rattle.table.proofs.checked.Table.rule.Goals as goal

pub returns-then-rules-number-clause-none : goal.returns-then-rules-number-clause-none
returns-then-rules-number-clause-none c = unnamed_past _ _ c.rules.ensures _ c.if-rules-number.true

pub invariant_of-result : goal.invariant_of-result
invariant_of-result c = record { named = names_below _ _ c.args.self.indexed _ c.rules.ensures _ c.if-rules-number.false }
