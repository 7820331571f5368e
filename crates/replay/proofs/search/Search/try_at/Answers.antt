use Rattle.std.proofs.Common.{◌<◌, length, arith}
use Rattle.minuska.specs.Computed.Step.{order}
use Rattle.replay.specs.Reading.{table_of}
use Rattle.replay.proofs.ReadingLaw.{checked_is}
use Rattle.replay.proofs.SeekLaw.{ordered_is}
use Rattle.replay.proofs.ToldLaw.{tried}
use Rattle.replay.proofs.search.Search.try_at.Goals as goal

pub returns : goal.returns
returns c =
    let s = c.args.self.now in
    let there : c.args.position < length (order (table_of s.table.words.now)) = omega (arith, s.rules_are) in
    tried s.table.words.now _ _ _ _ s.room c.args.out.now _ _ c.configuration.ensures
    (ordered_is s.table.words.now (checked_is s.table.indexed) c.args.position c.ordered-rule.result there c.ordered-rule.ensures) c.by_rule.ensures
