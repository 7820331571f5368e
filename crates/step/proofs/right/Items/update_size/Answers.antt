-- The size of the words that the plan says.
use Rattle.step.proofs.UpdateLaw.{parts_values, parts_sized}
use Rattle.step.proofs.right.Items.update_size.Goals as goal

pub plan-plan-requires : goal.plan-plan-requires
plan-plan-requires c = let q = parts_values _ _ _ _ _ _ _ c.update_parts-p.ensures c.requires.0.0 in (q.0, q.1)

pub plan_size-requires : goal.plan_size-requires
plan_size-requires c = let q = parts_values _ _ _ _ _ _ _ c.update_parts-p.ensures c.requires.0.0 in (q.0, q.2, c.plan-plan.ensures.fits)

pub returns : goal.returns
returns c = parts_sized _ _ _ _ _ _ _ c.update_parts-p.ensures _ c.plan-plan.ensures _ c.plan_size.ensures
