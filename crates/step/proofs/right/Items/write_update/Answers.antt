-- The words that the plan says.
use Rattle.step.proofs.UpdateLaw.{parts_values, parts_words, parts_room}
use Rattle.step.proofs.right.Items.write_update.Goals as goal

pub plan-plan-requires : goal.plan-plan-requires
plan-plan-requires c = let q = parts_values _ _ _ _ _ _ _ c.update_parts-p.ensures c.requires.0.rest in (q.0, q.1)

pub put_plan-requires : goal.put_plan-requires
put_plan-requires c =
    let q = parts_values _ _ _ _ _ _ _ c.update_parts-p.ensures c.requires.0.rest in
    (q.0, q.2, c.plan-plan.ensures.fits, parts_room _ _ _ _ _ _ _ c.update_parts-p.ensures _ c.plan-plan.ensures _ c.requires.0)

pub returns : goal.returns
returns c = record { words = _; item = parts_words _ _ _ _ _ _ _ c.update_parts-p.ensures _ c.plan-plan.ensures; puts = c.put_plan.ensures }
