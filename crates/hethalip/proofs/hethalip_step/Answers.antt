use Rattle.hethalip.specs.Range.{StepWithin}
use Rattle.hethalip.proofs.RangeLaw.{given_within, step_in_range}
use Rattle.hethalip.proofs.hethalip_step.Goals as goal

pub packed-requires : goal.packed-requires
packed-requires c = given_within StepWithin 6 c.step.result (step_in_range c.step.ensures)
