use Rattle.step.proofs.RightLaw.{node_within}
use Rattle.step.proofs.right.Items.write_item.Goals as goal

pub is_update-requires : goal.is_update-requires
is_update-requires c = node_within c.requires.before c.requires.rest
