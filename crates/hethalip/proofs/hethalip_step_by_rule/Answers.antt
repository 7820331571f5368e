use Rattle.hethalip.specs.Range.{StepWithin}
use Rattle.hethalip.proofs.RangeLaw.{given_within, rule_in_range}
use Rattle.hethalip.proofs.hethalip_step_by_rule.Goals as goal

pub packed-requires : goal.packed-requires
packed-requires c = given_within StepWithin 6 c.step_by_rule.result (rule_in_range c.step_by_rule.ensures)
