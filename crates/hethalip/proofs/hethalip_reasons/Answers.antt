use Rattle.hethalip.specs.Range.{RuleWithin}
use Rattle.hethalip.proofs.RangeLaw.{given_within, reasons_in_range}
use Rattle.hethalip.proofs.hethalip_reasons.Goals as goal

pub packed-requires : goal.packed-requires
packed-requires c = given_within RuleWithin 5 c.reasons.result (reasons_in_range c.reasons.ensures)
