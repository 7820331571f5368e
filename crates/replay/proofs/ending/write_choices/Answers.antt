use Rattle.std.proofs.Common.{◌≡◌, ◌∙◌, ap, length, get_or, take, arith, add-one}
use mathlib.Core.List.{List}
use Prim.Native.Nat.{pred}
use lib.IntN.{ℤ}
use Rattle.minuska.specs.Computed.Step.{order}
use Rattle.memory.specs.Layout.{position_of}
use Rattle.memory.proofs.LayoutLaw.{lent_frame}
use Rattle.replay.specs.Reading.{table_of}
use Rattle.replay.specs.Turns.{position_at}
use Rattle.replay.proofs.StackLaw.{chosen_more}
use Rattle.replay.proofs.ending.write_choices.Goals as goal

pub loop-i-preserved : goal.loop-i-preserved
loop-i-preserved c =
    let a = c.args in
    let s = a.search.now in
    let p = c.place in
    let rules = order (table_of s.table.words.now) in
    let e : c.choice_at.result ≡ get_or rules (pred (position_at s.room a.work.now c.loop-i.i)) 0 =
    c.choice_at.ensures ∙ ap (λ (l : List ℤ). get_or rules (pred (position_of l)) 0) (lent_frame s.room a.work.now c.loop-i.i p.result.start p.result.end p.ensures.start p.ensures.end) in
    rw (add-one c.loop-i.i, e, c.loop-i.invariant) (chosen_more rules (position_at s.room a.work.now) c.loop-i.i (take (length s.log.now) a.choices.now) (omega arith))
