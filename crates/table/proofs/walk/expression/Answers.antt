-- The walk over one expression, with none to come behind it.
use Rattle.table.proofs.PartLaw.{part_stops, walk_ending, expression_missed, expression_found}
use Rattle.table.proofs.TurnLaw.{part_outside}
use Rattle.table.proofs.walk.expression.Goals as goal

pub returns-then-table-at : goal.returns-then-table-at
returns-then-table-at g c = expression_missed (λ m. part_outside _ _ _ _ c.if-table-at.true)

pub returns-in_err-walked : goal.returns-in_err-walked
returns-in_err-walked g c = rw c.from_residual.ensures (expression_missed (λ m. part_stops (c.in_err-walked.ensures.nowhere m)))

pub is_term-requires : goal.is_term-requires
is_term-requires g c = let w = c.in_ok-walked.ensures in walk_ending w.reaches w.order

pub returns-then-not-is_term : goal.returns-then-not-is_term
returns-then-not-is_term g c = expression_missed (λ m. c.if-not-is_term.ensures.is _ _ _ c.in_ok-walked.ensures.reaches)

pub returns : goal.returns
returns g c = expression_found (c.if-not-is_term.ensures.is _ _ _ c.in_ok-walked.ensures.reaches)
