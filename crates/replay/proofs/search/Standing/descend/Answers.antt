use Rattle.std.proofs.Common.{◌+◌, arith, refl}
use mathlib.Core.Logic.{inl}
use Rattle.memory.proofs.LayoutLaw.{lent_frame, lent_back}
use Rattle.replay.proofs.search.Standing.descend.Goals as goal

pub returns : goal.returns
returns c =
    let a = c.args in
    let p = c.place.ensures in
    let e = lent_frame a.self.search.now.room a.work.now (a.self.depth + 1) c.place.result.start c.place.result.end p.start p.end in
    inl (
      omega arith,
      refl,
      record {
        frame = c.enter.new.frame;
        is = lent_back a.self.search.now.room a.work.now (a.self.depth + 1) c.place.result.start c.place.result.end p.start p.end c.enter.new.frame;
        enters = rw e at c.enter.ensures.enters;
        keeps = rw e at c.enter.ensures.keeps;
      },
    )
