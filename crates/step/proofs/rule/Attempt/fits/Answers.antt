-- The sizes of the right show that there is room, or else the measure decides.
use Rattle.std.proofs.Common.{arith}
use Rattle.step.proofs.RuleLaw.{some_rest, measured_is, shown_is, right_few, sizes_small, greater_of_two}
use Rattle.step.proofs.rule.Attempt.fits.Goals as goal

pub overflow_sub-right : goal.overflow_sub-right
overflow_sub-right c = (right_few _ _ _ _ _ _ _ c.sizes-sizes.ensures _ _ c.right-right.ensures 0 c.requires).0

pub overflow_mul-sizes : goal.overflow_mul-sizes
overflow_mul-sizes c = record { fits = omega (arith, (sizes_small _ _ _ _ _ _ _ c.sizes-sizes.ensures _ _ c.right-right.ensures _ (greater_of_two c.max-most.ensures).2 c.requires).0) }

pub overflow_mul-sizes-2 : goal.overflow_mul-sizes-2
overflow_mul-sizes-2 c = record { fits = omega (arith, (sizes_small _ _ _ _ _ _ _ c.sizes-sizes.ensures _ _ c.right-right.ensures _ (greater_of_two c.max-most.ensures).2 c.requires).1) }

pub overflow_add-sizes : goal.overflow_add-sizes
overflow_add-sizes c =
    let s = sizes_small _ _ _ _ _ _ _ c.sizes-sizes.ensures _ _ c.right-right.ensures _ (greater_of_two c.max-most.ensures).2 c.requires in
    record { fits = omega (arith, s.0, s.1) }

pub returns-then-sizes-most : goal.returns-then-sizes-most
returns-then-sizes-most c =
    let m = greater_of_two c.max-most.ensures in
    shown_is _ _ _ _ _ _ _ c.sizes-sizes.ensures _ _ c.right-right.ensures _ m.0 m.1 _ c.if-sizes-most.true

pub measure_right-requires : goal.measure_right-requires
measure_right-requires c = rw (c.scope-scope.ensures.table, c.scope-scope.ensures.configuration, c.scope-scope.ensures.places) (some_rest _ _ _ _ _ _ _ c.right-right.ensures c.requires)

pub returns : goal.returns
returns c = measured_is _ _ _ _ _ _ _ c.right-right.ensures _ _ (rw (c.scope-scope.ensures.table, c.scope-scope.ensures.configuration, c.scope-scope.ensures.places) at c.measure_right.ensures)
