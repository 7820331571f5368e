-- What the test of a node says of the words where the walk is.
use Rattle.std.proofs.Common.{◌≡◌, ◌+◌, ◌≤◌, ◌∙◌, length, arith, rules, FitsSigned, w64, get_or, pos, None}
use Rattle.std.proofs.lemmas.Grind.{common_steps}
use Rattle.std.proofs.lemmas.Int.{to_z-of_z}
use Rattle.minuska.specs.Computed.Read.{plain_children}
use Rattle.term.proofs.MetLaw.{grounding_end, grounding_short, grounding_other, grounding_few, grounding_on}
use Rattle.term.proofs.ground.ground_mixed.Goals as goal

pub returns-then-n-i : goal.returns-then-n-i
returns-then-n-i c = grounding_short c.loop-k.invariant (omega arith)

pub returns-in_err-k : goal.returns-in_err-k
returns-in_err-k c =
    let t : FitsSigned w64 (get_or c.args.s.now c.loop-k.i (pos 0)) = search rules in
    let d : FitsSigned w64 (get_or c.args.s.now (c.loop-k.i + 1) (pos 0)) = search rules in
    let e : c.from_residual.result ≡ None = grind (arith, common_steps) in
    e ∙ grounding_other c.loop-k.invariant (omega arith) c.loop-k-test.true (rw (to_z-of_z w64 _ t, to_z-of_z w64 _ d) at c.in_err-k.ensures.node)

pub overflow_add-k : goal.overflow_add-k
overflow_add-k c =
    let t : FitsSigned w64 (get_or c.args.s.now c.loop-k.i (pos 0)) = search rules in
    let d : FitsSigned w64 (get_or c.args.s.now (c.loop-k.i + 1) (pos 0)) = search rules in
    let h : c.loop-k.i + 2 ≤ length c.args.s.now = omega arith in
    let m = rw (to_z-of_z w64 _ t, to_z-of_z w64 _ d) at c.in_ok-k.ensures.count in
    omega (arith, grounding_few c.loop-k.invariant h c.loop-k-test.true (rw (to_z-of_z w64 _ t, to_z-of_z w64 _ d) at c.in_ok-k.ensures.node))

pub loop-k-preserved : goal.loop-k-preserved
loop-k-preserved c =
    let t : FitsSigned w64 (get_or c.args.s.now c.loop-k.i (pos 0)) = search rules in
    let d : FitsSigned w64 (get_or c.args.s.now (c.loop-k.i + 1) (pos 0)) = search rules in
    let m : c.in_ok-k.field-0 ≡ plain_children (get_or c.args.s.now c.loop-k.i (pos 0)) (get_or c.args.s.now (c.loop-k.i + 1) (pos 0)) = rw (to_z-of_z w64 _ t, to_z-of_z w64 _ d) at c.in_ok-k.ensures.count in
    rw m (grounding_on c.loop-k.invariant (omega arith) c.loop-k-test.true (rw (to_z-of_z w64 _ t, to_z-of_z w64 _ d) at c.in_ok-k.ensures.node) (omega arith))

pub returns : goal.returns
returns c = grounding_end c.loop-k.invariant (omega arith)
