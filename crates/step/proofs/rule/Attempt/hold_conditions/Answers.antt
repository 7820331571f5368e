use Rattle.step.proofs.RuleLaw.{some_conditions, hold_is}
use Rattle.step.proofs.rule.Attempt.hold_conditions.Goals as goal

pub hold_all-requires : goal.hold_all-requires
hold_all-requires c = rw (c.scope-scope.ensures.table, c.scope-scope.ensures.configuration, c.scope-scope.ensures.places) (some_conditions _ _ _ _ _ _ _ c.conditions-conditions.ensures c.requires)

pub returns : goal.returns
returns c = hold_is _ _ _ _ _ _ _ c.conditions-conditions.ensures _ (rw (c.scope-scope.ensures.table, c.scope-scope.ensures.configuration, c.scope-scope.ensures.places) at c.hold_all.ensures)
