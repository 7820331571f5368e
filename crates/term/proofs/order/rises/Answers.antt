-- Two words of a key stand where the walk is, and where the next entry starts; how the two keys compare.
use Rattle.std.proofs.Common.{◌≡◌, ◌+◌, ◌-◌, get_or, pos, arith, rules, subst, FitsSigned, w64, true}
use Rattle.std.specs.Int.Signed.{le_z}
use Rattle.std.proofs.lemmas.Int.{ints, to_z-of_z}
use Rattle.term.proofs.SignedLaw.{at_most}
use Rattle.term.proofs.OrderLaw.{Rising, opened, key_words, rising_start, rising_value, rising_end, rising_next, rising_other, rising_stop, rising_on}
use Rattle.term.proofs.order.rises.Goals as goal
use Rattle.term.proofs.order.rises.Goals.{then-s-next-ne-WHOLE-via-then-s-next-ne-WHOLE, then-s-next-ne-WHOLE-via-else-s-next-ne-WHOLE+then-s-next}

pub bounds-s-at : goal.bounds-s-at
bounds-s-at c = let w = (key_words (opened c.requires.forest c.requires.are (omega arith))).room in omega arith

pub loop-init : goal.loop-init
loop-init c =
    let f : FitsSigned w64 (get_or c.args.s.now c.args.at (pos 0)) = search rules in
    let e : c.args.count ≡ c.args.count + 1 - 1 = omega arith in
    subst (Rising c.args.s.now c.args.at c.args.count c.args.at) e (rising_start c.requires (omega arith) (grind (arith, ints, to_z-of_z)))

pub ground_end-next-requires : goal.ground_end-next-requires
ground_end-next-requires c = rising_value c.loop.invariant

pub offset_bounds-s-next : goal.offset_bounds-s-next
offset_bounds-s-next c = let w = (key_words (rising_next c.loop.invariant _ c.ground_end-next.ensures (omega arith))).room in search rules

pub bounds-s-next : goal.bounds-s-next
bounds-s-next c = let w = (key_words (rising_next c.loop.invariant _ c.ground_end-next.ensures (omega arith))).room in omega arith

pub bounds-s-next-else-s-next-ne-WHOLE : goal.bounds-s-next-else-s-next-ne-WHOLE
bounds-s-next-else-s-next-ne-WHOLE c = let w = (key_words (rising_next c.loop.invariant _ c.ground_end-next.ensures (omega arith))).room in omega arith

pub returns-then-s-next-ne-WHOLE : goal.returns-then-s-next-ne-WHOLE
returns-then-s-next-ne-WHOLE c =
    elim c.then-s-next-ne-WHOLE.branch [
      | then-s-next-ne-WHOLE-via-then-s-next-ne-WHOLE w ↦ rising_other c.loop.invariant _ c.ground_end-next.ensures (omega arith) (λ e. grind (arith, ints))
      | then-s-next-ne-WHOLE-via-else-s-next-ne-WHOLE+then-s-next w ↦
          let f : FitsSigned w64 (get_or c.args.s.now (c.ground_end-next.result + 1) (pos 0)) = search rules in
          let h : FitsSigned w64 (get_or c.args.s.now (c.loop.i + 1) (pos 0)) = search rules in
          let q : le_z (get_or c.args.s.now (c.ground_end-next.result + 1) (pos 0)) (get_or c.args.s.now (c.loop.i + 1) (pos 0)) ≡ true = rw (to_z-of_z w64 _ f, to_z-of_z w64 _ h) at w.if-s-next.true in
          rising_stop c.loop.invariant _ c.ground_end-next.ensures (omega arith) (grind (arith, ints)) (at_most (get_or c.args.s.now (c.ground_end-next.result + 1) (pos 0)) (get_or c.args.s.now (c.loop.i + 1) (pos 0)) q)
    ]

pub loop-preserved : goal.loop-preserved
loop-preserved c =
    let e : c.args.count + 1 - c.loop.counter - 1 ≡ c.args.count + 1 - (c.loop.counter + 1) = omega arith in
    subst (Rising c.args.s.now c.args.at c.args.count c.ground_end-next.result) e
    (rising_on c.loop.invariant _ c.ground_end-next.ensures (omega arith) (grind (arith, ints)) (grind (arith, ints)))

pub returns : goal.returns
returns c = rising_end c.loop.invariant (omega arith)
