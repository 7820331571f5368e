-- Of every left and configuration that stand there, the walk is where `Walking` says.
use Rattle.std.proofs.Common.{◌+◌, ◌*◌}
use Rattle.step.proofs.MatchingAnswer.{MatchingAt}
use Rattle.step.proofs.matching.match_left.Given as goal

abbrev pub invariant-loop-node : goal.invariant-loop-node
invariant-loop-node l = MatchingAt l.table l.left.from l.left.to l.configuration.words.now l.fn.places.starts (l.left.from + 2 * l.node) l.j l.places.starts l.places.ends
