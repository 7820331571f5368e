-- The tag's bound is read; whether the datum is below it.
use Rattle.std.proofs.Common.{◌≡◌, ◌∙◌, refl, pos, arith, w64, FitsSigned}
use Rattle.term.specs.TermEnd.{tag_children}
use Rattle.std.proofs.lemmas.Int.{ints, to_z-of_z}
use Rattle.term.proofs.GroundLaw.{tag_count, below, above, of_whole}
use Rattle.term.proofs.ground.tagged_children.Goals as goal

pub returns-then-cast_unsigned-tag-clause-node : goal.returns-then-cast_unsigned-tag-clause-node
returns-then-cast_unsigned-tag-clause-node c =
    let t : FitsSigned w64 c.args.t = c.ranges.t in
    let d : FitsSigned w64 c.args.d = c.ranges.d in
    below c.args.t c.args.d _ _ t d (rw (to_z-of_z w64 _ t) at c.cast_unsigned-tag.ensures) (rw (to_z-of_z w64 _ d) at c.cast_unsigned.ensures) c.if-tag-ge-TAGS.false c.if-cast_unsigned-tag.true

pub returns-then-cast_unsigned-tag-clause-count : goal.returns-then-cast_unsigned-tag-clause-count
returns-then-cast_unsigned-tag-clause-count c =
    let t : FitsSigned w64 c.args.t = c.ranges.t in
    let d : FitsSigned w64 c.args.d = c.ranges.d in
    c.from.ensures ∙ tag_count c.args.t c.args.d _ _ t d (rw (to_z-of_z w64 _ t) at c.cast_unsigned-tag.ensures) (rw (to_z-of_z w64 _ d) at c.cast_unsigned.ensures) c.if-tag-ge-TAGS.false

pub returns-then-t-eq-WHOLE-clause-node : goal.returns-then-t-eq-WHOLE-clause-node
returns-then-t-eq-WHOLE-clause-node c = of_whole c.args.t c.args.d (grind (arith, ints))

pub returns-then-t-eq-WHOLE-clause-count : goal.returns-then-t-eq-WHOLE-clause-count
unfolding tag_children
returns-then-t-eq-WHOLE-clause-count c =
    let p : c.args.t ≡ pos 2 = grind (arith, ints) in
    rw p (refl)

pub returns-clause-node : goal.returns-clause-node
returns-clause-node c =
    let t : FitsSigned w64 c.args.t = c.ranges.t in
    let d : FitsSigned w64 c.args.d = c.ranges.d in
    above c.args.t c.args.d _ _ t d (rw (to_z-of_z w64 _ t) at c.cast_unsigned-tag.ensures) (rw (to_z-of_z w64 _ d) at c.cast_unsigned.ensures) c.if-tag-ge-TAGS.false c.if-cast_unsigned-tag.false (λ w. grind (arith, ints))
