use Rattle.hethalip.specs.Range.{CountWithin}
use Rattle.hethalip.proofs.RangeLaw.{given_within, match_in_range}
use Rattle.hethalip.proofs.hethalip_match.Goals as goal

pub packed-requires : goal.packed-requires
packed-requires c = given_within CountWithin 2 c.match_rule.result (match_in_range c.match_rule.ensures)
