use Rattle.hethalip.specs.Range.{StepsWithin}
use Rattle.hethalip.proofs.RangeLaw.{given_within, run_in_range}
use Rattle.hethalip.proofs.hethalip_run.Goals as goal

pub packed-requires : goal.packed-requires
packed-requires c = given_within StepsWithin 5 c.run.result (run_in_range c.run.ensures)
