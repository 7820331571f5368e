use Rattle.std.proofs.Common.{◌<◌, length, arith}
use Rattle.minuska.specs.Computed.Step.{order}
use Rattle.replay.specs.Reading.{table_of}
use Rattle.replay.proofs.ReadingLaw.{checked_is}
use Rattle.replay.proofs.SeekLaw.{seek_found, seek_on}
use Rattle.replay.proofs.search.Search.seek.Goals as goal

pub returns-then-action-clause-found : goal.returns-then-action-clause-found
returns-then-action-clause-found c =
    let s = c.args.self.now in
    let l = c.loop-position in
    let here : l.position < length (order (table_of s.table.words.now)) = omega (arith, s.rules_are) in
    rw s.rules_are
    (seek_found s.table.words.now (checked_is s.table.indexed) c.args.action c.args.from l.position c.ordered.result c.action.result l.invariant here c.ordered.ensures c.action.ensures (omega arith) c.if-action.true)

pub loop-position-preserved : goal.loop-position-preserved
loop-position-preserved c =
    let s = c.args.self.now in
    let l = c.loop-position in
    let here : l.position < length (order (table_of s.table.words.now)) = omega (arith, s.rules_are) in
    seek_on s.table.words.now (checked_is s.table.indexed) c.args.action c.args.from l.position c.ordered.result c.action.result l.invariant here c.ordered.ensures c.action.ensures c.if-action.false
