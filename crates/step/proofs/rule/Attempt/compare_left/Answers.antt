use Rattle.step.proofs.RuleLaw.{left_in, match_is}
use Rattle.step.proofs.rule.Attempt.compare_left.Goals as goal

pub match_left-requires : goal.match_left-requires
match_left-requires c = left_in _ _ _ _ c.left-left.ensures c.args.self.rule.named

pub returns : goal.returns
returns c = match_is _ _ _ _ c.left-left.ensures _ _ _ _ _ c.match_left.ensures
