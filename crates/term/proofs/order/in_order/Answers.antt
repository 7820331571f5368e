-- A node stands where the walk is; of a dictionary, its entries, and how they are answered.
use Rattle.std.proofs.Common.{◌≡◌, ◌+◌, get_or, pos, arith, rules, FitsSigned, w64}
use Rattle.std.proofs.lemmas.Int.{ints, to_z-of_z}
use Rattle.minuska.specs.Computed.Read.{dictionary_tag}
use Rattle.term.proofs.OrderLaw.{ordering_start, ordering_end, ordering_here, ordering_other, ordering_count, ordering_entries, ordering_stop, ordering_next, front_words}
use Rattle.term.proofs.order.in_order.Goals as goal
use Rattle.term.proofs.order.in_order.Goals.{else-s-i-eq-DICTIONARY-via-then-s-i-eq-DICTIONARY+else-not-rises, else-s-i-eq-DICTIONARY-via-else-s-i-eq-DICTIONARY}

pub loop-i-init : goal.loop-i-init
loop-i-init c = ordering_start c.requires

pub bounds-s-i-then-s-i-eq-DICTIONARY : goal.bounds-s-i-then-s-i-eq-DICTIONARY
bounds-s-i-then-s-i-eq-DICTIONARY c = let w = (front_words (ordering_here c.loop-i.invariant c.loop-i-test.true)).room in omega arith

pub overflow_cast-s : goal.overflow_cast-s
overflow_cast-s c =
    let t : get_or c.args.s.now c.loop-i.i (pos 0) ≡ pos dictionary_tag = grind (arith, ints) in
    let d : FitsSigned w64 (get_or c.args.s.now (c.loop-i.i + 1) (pos 0)) = search rules in
    rw (to_z-of_z w64 _ d) (ordering_count c.loop-i.invariant c.loop-i-test.true t, search rules)

pub rises-requires : goal.rises-requires
rises-requires c =
    let t : get_or c.args.s.now c.loop-i.i (pos 0) ≡ pos dictionary_tag = grind (arith, ints) in
    let d : FitsSigned w64 (get_or c.args.s.now (c.loop-i.i + 1) (pos 0)) = search rules in
    rw (to_z-of_z w64 _ d) (ordering_entries c.loop-i.invariant c.loop-i-test.true t)

pub returns-then-not-rises : goal.returns-then-not-rises
returns-then-not-rises c =
    let t : get_or c.args.s.now c.loop-i.i (pos 0) ≡ pos dictionary_tag = grind (arith, ints) in
    let d : FitsSigned w64 (get_or c.args.s.now (c.loop-i.i + 1) (pos 0)) = search rules in
    ordering_stop c.loop-i.invariant c.loop-i-test.true t (rw (to_z-of_z w64 _ d, c.if-not-rises.true) at c.rises.ensures)

pub loop-i-preserved : goal.loop-i-preserved
loop-i-preserved c =
    elim c.else-s-i-eq-DICTIONARY.branch [
      | else-s-i-eq-DICTIONARY-via-then-s-i-eq-DICTIONARY+else-not-rises w ↦
          let t : get_or c.args.s.now c.loop-i.i (pos 0) ≡ pos dictionary_tag = grind (arith, ints) in
          let d : FitsSigned w64 (get_or c.args.s.now (c.loop-i.i + 1) (pos 0)) = search rules in
          ordering_next c.loop-i.invariant c.loop-i-test.true t (rw (to_z-of_z w64 _ d, w.if-not-rises.false) at w.rises.ensures)
      | else-s-i-eq-DICTIONARY-via-else-s-i-eq-DICTIONARY w ↦ ordering_other c.loop-i.invariant c.loop-i-test.true (λ e. grind (arith, ints))
    ]

pub returns : goal.returns
returns c = ordering_end c.loop-i.invariant c.loop-i-test.false

-- the last node
pub returns-else-s-i-eq-DICTIONARY : goal.returns-else-s-i-eq-DICTIONARY
returns-else-s-i-eq-DICTIONARY c =
    elim c.else-s-i-eq-DICTIONARY.branch [
      | else-s-i-eq-DICTIONARY-via-then-s-i-eq-DICTIONARY+else-not-rises w ↦
          let t : get_or c.args.s.now c.loop-i.i (pos 0) ≡ pos dictionary_tag = grind (arith, ints) in
          let d : FitsSigned w64 (get_or c.args.s.now (c.loop-i.i + 1) (pos 0)) = search rules in
          ordering_end (ordering_next c.loop-i.invariant c.loop-i-test.true t (rw (to_z-of_z w64 _ d, w.if-not-rises.false) at w.rises.ensures)) (omega arith)
      | else-s-i-eq-DICTIONARY-via-else-s-i-eq-DICTIONARY w ↦ ordering_end (ordering_other c.loop-i.invariant c.loop-i-test.true (λ e. grind (arith, ints))) (omega arith)
    ]
