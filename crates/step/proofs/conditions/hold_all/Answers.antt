use Rattle.std.proofs.Common.{arith}
use borrow.Author.Tests.{not-true, not-false}
use Rattle.step.proofs.ConditionsLaw.{all_held, condition_needs, holding_on, not_held, holding_forward}
use Rattle.step.proofs.conditions.hold_all.Goals as goal

pub condition-condition-requires : goal.condition-condition-requires
condition-condition-requires c = condition_needs _ _ _ _ _ _ _ _ c.loop-i.invariant.1 c.loop-i-test.true c.requires

pub returns-then-not-condition : goal.returns-then-not-condition
returns-then-not-condition c = not_held _ _ _ _ _ _ _ _ c.loop-i.invariant.1 c.loop-i-test.true _ c.condition-condition.ensures (not-true _ c.if-not-condition.true)

pub loop-i-smaller : goal.loop-i-smaller
loop-i-smaller c = omega (arith, holding_forward _ _ _ _ _ _ _ _ c.loop-i.invariant.1 c.loop-i-test.true _ c.condition-condition.ensures c.requires)

pub loop-i-preserved : goal.loop-i-preserved
loop-i-preserved c = (
  omega (arith, holding_forward _ _ _ _ _ _ _ _ c.loop-i.invariant.1 c.loop-i-test.true _ c.condition-condition.ensures c.requires),
  holding_on _ _ _ _ _ _ _ _ c.loop-i.invariant.1 c.loop-i-test.true _ c.condition-condition.ensures (not-false _ c.if-not-condition.false),
)

pub returns : goal.returns
returns c = all_held _ _ _ _ _ _ _ _ c.loop-i.invariant.1 c.loop-i-test.false
