-- The rules before this one do not apply, and nothing was written.
use Rattle.std.proofs.Common.{◌≡◌, ◌-◌}
use Rattle.step.proofs.AmongLaw.{Trying}
use Rattle.step.proofs.apply_among.Given as goal

abbrev pub invariant-loop-obstacle : goal.invariant-loop-obstacle
invariant-loop-obstacle l = record {
  kept : l.out ≡ l.fn.out;
  table : l.tried.rule.table.words.now ≡ l.fn.first.rule.table.words.now;
  root : l.tried.root ≡ l.fn.first.root;
  to : l.tried.to ≡ l.fn.first.to;
  trying : Trying l.fn.first.rule.table.words.now l.configuration.words.now l.fn.first.rule.number l.fn.first.from l.fn.first.to l.tried.rule.number l.tried.from;
}

abbrev pub decreases-loop-obstacle : goal.decreases-loop-obstacle
decreases-loop-obstacle l = l.tried.to - l.tried.from
