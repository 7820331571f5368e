use Rattle.hethalip.specs.Range.{AnyReplay}
use Rattle.hethalip.proofs.RangeLaw.{given_within, replay_in_range}
use Rattle.hethalip.proofs.hethalip_replay.Goals as goal

pub packed-requires : goal.packed-requires
packed-requires c = given_within AnyReplay 6 c.replay.result (replay_in_range c.replay.ensures)
