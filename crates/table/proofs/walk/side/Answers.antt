-- The walk over one side, with none to come behind it.
use Rattle.table.proofs.KeepLaw.{kept_same, kept_on}
use Rattle.table.proofs.PartLaw.{part_stops, walk_ending}
use Rattle.table.proofs.SizeLaw.{no_side, a_side}
use Rattle.table.proofs.TurnLaw.{part_outside}
use Rattle.table.proofs.walk.side.Goals as goal

pub returns-then-table-at : goal.returns-then-table-at
returns-then-table-at g c = record { kept = kept_same _ _; nowhere = λ m. no_side (part_outside _ _ _ _ c.if-table-at.true) }

pub returns-in_err-walked : goal.returns-in_err-walked
returns-in_err-walked g c =
    let w = c.in_err-walked.ensures in
    rw c.from_residual.ensures (record { kept = w.kept; nowhere = λ m. no_side (part_stops (w.nowhere m)) })

pub is_term-requires : goal.is_term-requires
is_term-requires g c = let w = c.in_ok-walked.ensures in walk_ending w.reaches w.order

pub returns-then-not-is_term : goal.returns-then-not-is_term
returns-then-not-is_term g c =
    let r = c.in_ok-walked.ensures.reaches in
    record { kept = kept_on _ _ _ _ _ _ _ _ r _ (kept_same _ _); nowhere = λ m. no_side (c.if-not-is_term.ensures.is _ _ _ r) }

pub returns : goal.returns
returns g c =
    let w = c.in_ok-walked.ensures in
    a_side _ (c.if-not-is_term.ensures.is _ _ _ w.reaches) w.counts
