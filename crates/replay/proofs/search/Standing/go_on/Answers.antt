use Rattle.replay.proofs.TurnLaw.{lent_spare, lent_made, lent_turned}
use Rattle.replay.proofs.search.Standing.go_on.Goals as goal

pub settle-requires-clause-made : goal.settle-requires-clause-made
settle-requires-clause-made c =
    let a = c.args in
    let q = c.requires in
    let p = c.place in
    lent_made a.self.search.now a.out.now a.work.now a.self.depth a.position q.fits a.self.deep q.sought q.sound p.result.start p.result.end p.ensures.start p.ensures.end c.set_position.new.frame c.set_position.ensures
    c.try_at-answer.new.out c.try_at-answer.result c.try_at-answer.ensures

pub settle-requires-clause-spare : goal.settle-requires-clause-spare
settle-requires-clause-spare c =
    let a = c.args in
    let q = c.requires in
    let p = c.place in
    lent_spare a.self.search.now a.out.now a.work.now a.self.depth a.position q.fits a.self.deep q.sought q.sound p.result.start p.result.end p.ensures.start p.ensures.end c.set_position.new.frame c.set_position.ensures

pub returns : goal.returns
returns c =
    let a = c.args in
    let q = c.requires in
    let p = c.place in
    lent_turned a.self.search.now a.out.now a.work.now a.self.depth a.position q.fits a.self.deep q.sought q.sound p.result.start p.result.end p.ensures.start p.ensures.end c.set_position.new.frame c.set_position.ensures
    c.try_at-answer.new.out c.try_at-answer.result c.try_at-answer.ensures c.settle.new.work c.settle.result c.settle.ensures
