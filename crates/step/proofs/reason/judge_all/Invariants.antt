-- None of the rules before this one applies, and their obstacles are in the list.
use Rattle.std.proofs.Common.{◌≡◌, ◌-◌}
use Rattle.minuska.specs.Bridge.Place.{RuleCountIs, RootKeyIs}
use Rattle.step.proofs.JudgingLaw.{Turn}
use Rattle.step.proofs.reason.judge_all.Given as goal

abbrev pub invariant-loop-obstacle : goal.invariant-loop-obstacle
invariant-loop-obstacle l = record {
  table : l.tried.rule.table.words.now ≡ l.game.table.words.now;
  key : RootKeyIs l.game.configuration.words.now l.tried.root;
  count : RuleCountIs l.game.table.words.now l.tried.to;
  turn : Turn l.game.table.words.now l.game.configuration.words.now l.tried.to l.tried.rule.number l.tried.from l.obstacles;
}

abbrev pub decreases-loop-obstacle : goal.decreases-loop-obstacle
decreases-loop-obstacle l = l.tried.to - l.tried.from
