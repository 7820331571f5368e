use Rattle.std.proofs.Common.{ℕ, ◌≡◌, ◌+◌, ◌∙◌, ap, length, arith}
use Rattle.std.proofs.Math.Nat.{zero-mul}
use Rattle.minuska.specs.Slice.{write_zeros}
use Rattle.memory.specs.Layout.{base}
use Rattle.words.proofs.CopyLaw.{zeros_front}
use Rattle.replay.proofs.EndLaw.{answer_empty, opened_sound, opened_memory, answered}
use Rattle.replay.proofs.replay_accepted.Goals as goal

pub returns-then-actions-eq0 : goal.returns-then-actions-eq0
returns-then-actions-eq0 c =
    let a = c.args in
    let s = a.search.now in
    let f = c.requires.fits in
    let e : s.room + 2 ≡ base s.room (length s.log.now) + (s.room + 2) = omega (arith, ap (base s.room) c.if-actions-eq0.true, zero-mul (s.room + 2)) in
    answer_empty s.table.words.now a.configuration.words.now s.log.now s.room a.out.now a.choices.now a.work.now _ _ a.configuration.accepted c.if-actions-eq0.true c.copy.ensures
    (zeros_front (s.room + 2) a.work.now _ (omega arith) c.clear.ensures ∙ ap (λ (n : ℕ). write_zeros n a.work.now) e)

pub find-found-requires-clause-sound : goal.find-found-requires-clause-sound
find-found-requires-clause-sound c =
    let a = c.args in
    let s = a.search.now in
    opened_sound s.table.words.now s.rules s.room a.configuration.words.now s.log.now a.out.now a.work.now s.rules_are c.requires.fits c.requires.small.0 (omega arith) a.configuration.accepted c.set_up.new.work c.set_up.ensures

pub find-found-requires-clause-memory : goal.find-found-requires-clause-memory
find-found-requires-clause-memory c =
    let a = c.args in
    let s = a.search.now in
    opened_memory s.table.words.now s.rules s.room a.configuration.words.now s.log.now a.out.now a.work.now s.rules_are c.requires.fits c.requires.small.0 (omega arith) a.configuration.accepted c.set_up.new.work c.set_up.ensures

pub returns : goal.returns
returns c =
    let a = c.args in
    let s = a.search.now in
    let f = c.find-found in
    answered s.table.words.now s.rules s.room a.configuration.words.now s.log.now a.out.now a.work.now s.rules_are c.requires.fits c.requires.small.0 (omega arith) a.configuration.accepted c.set_up.new.work c.set_up.ensures
    f.result f.new.out f.new.work f.ensures a.choices.now c.conclude.new.out c.conclude.new.choices c.conclude.new.work c.conclude.result c.conclude.ensures
