use Rattle.run.proofs.EndingLaw.{ended}
use Rattle.run.proofs.run_accepted.Goals as goal

pub returns : goal.returns
returns c =
    let a = c.args in
    let e = c.advance-ended in
    ended a.game.table.words.now a.game.configuration.words.now a.budget a.limit a.out.now a.spare.now e.result e.new.out e.new.spare c.finish.new.out c.finish.new.spare e.ensures c.finish.ensures
