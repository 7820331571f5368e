use Rattle.std.proofs.Common.{◌≡◌, ◌-◌, ◌∙◌, ap, arith}
use Rattle.memory.specs.Layout.{position_of}
use Rattle.memory.proofs.LayoutLaw.{lent_frame}
use Rattle.replay.specs.Turns.{position_at}
use Rattle.replay.proofs.TurnLaw.{searches, turn_ended, turn_back}
use Rattle.replay.proofs.search.Standing.turn.Goals as goal

pub returns-in-None : goal.returns-in-None
returns-in-None c =
    let a = c.args in
    let s = a.self.search.now in
    let q = c.requires in
    let p = c.place in
    let e : c.position-from.result ≡ position_at s.room a.work.now a.self.depth = c.position-from.ensures ∙ ap position_of (lent_frame s.room a.work.now a.self.depth p.result.start p.result.end p.ensures.start p.ensures.end) in
    turn_ended _ _ _ _ a.out.now a.work.now a.self.depth (searches s a.out.now a.work.now q.fits) a.self.deep q.sound (rw e at c.in-None.ensures.none) c.if-self-eq0.true

pub returns-in-None-2 : goal.returns-in-None-2
returns-in-None-2 c =
    let a = c.args in
    let s = a.self.search.now in
    let q = c.requires in
    let p = c.place in
    let e : c.position-from.result ≡ position_at s.room a.work.now a.self.depth = c.position-from.ensures ∙ ap position_of (lent_frame s.room a.work.now a.self.depth p.result.start p.result.end p.ensures.start p.ensures.end) in
    turn_back _ _ _ _ a.out.now a.work.now a.self.depth (searches s a.out.now a.work.now q.fits) a.self.deep q.sound (rw e at c.in-None-2.ensures.none) (a.self.depth - 1) (omega arith)
