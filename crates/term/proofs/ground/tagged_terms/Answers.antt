-- What the tag's row says of the words where the walk is.
use Rattle.std.proofs.Common.{◌≡◌, ◌+◌, ◌≤◌, length, arith, rules, FitsSigned, w64, get_or, pos}
use Rattle.std.proofs.lemmas.Int.{to_z-of_z}
use Rattle.term.specs.TermEnd.{tag_children}
use Rattle.term.proofs.MetLaw.{tagging_end, tagging_short, tagging_other, tagging_few, tagging_on}
use Rattle.term.proofs.ground.tagged_terms.Goals as goal

pub returns-then-n-i-lt2 : goal.returns-then-n-i-lt2
returns-then-n-i-lt2 c = tagging_short c.loop-k.invariant (omega arith)

pub returns-in_default : goal.returns-in_default
returns-in_default c =
    let t : FitsSigned w64 (get_or c.args.s.now c.loop-k.i (pos 0)) = search rules in
    let d : FitsSigned w64 (get_or c.args.s.now (c.loop-k.i + 1) (pos 0)) = search rules in
    tagging_other c.loop-k.invariant (rw (to_z-of_z w64 _ t, to_z-of_z w64 _ d) at c.in_default.ensures.node)

pub overflow_add-k : goal.overflow_add-k
overflow_add-k c =
    let t : FitsSigned w64 (get_or c.args.s.now c.loop-k.i (pos 0)) = search rules in
    let d : FitsSigned w64 (get_or c.args.s.now (c.loop-k.i + 1) (pos 0)) = search rules in
    let h : c.loop-k.i + 2 ≤ length c.args.s.now = omega arith in
    let m = rw (to_z-of_z w64 _ t) at c.in-Some.ensures.count in
    omega (arith, tagging_few c.loop-k.invariant h c.loop-k-test.true (rw (to_z-of_z w64 _ t, to_z-of_z w64 _ d) at c.in-Some.ensures.node))

pub loop-k-preserved : goal.loop-k-preserved
loop-k-preserved c =
    let t : FitsSigned w64 (get_or c.args.s.now c.loop-k.i (pos 0)) = search rules in
    let d : FitsSigned w64 (get_or c.args.s.now (c.loop-k.i + 1) (pos 0)) = search rules in
    let m : c.in-Some.m ≡ tag_children (get_or c.args.s.now c.loop-k.i (pos 0)) = rw (to_z-of_z w64 _ t) at c.in-Some.ensures.count in
    rw m (tagging_on c.loop-k.invariant (omega arith) c.loop-k-test.true (rw (to_z-of_z w64 _ t, to_z-of_z w64 _ d) at c.in-Some.ensures.node))

pub returns : goal.returns
returns c = tagging_end c.loop-k.invariant (omega arith)
