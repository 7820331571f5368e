-- A call in a right, and its arguments.
use Rattle.table.proofs.KindLaw.{call_children, call_missed, call_on}
use Rattle.table.proofs.side.call_turn.Goals as goal

pub expressions_end-requires : goal.expressions_end-requires
expressions_end-requires g c = let h = c.requires in (h.node.room, call_children h c.args.seen.now)

pub returns-in_err-below : goal.returns-in_err-below
returns-in_err-below g c = rw c.from_residual.ensures (call_missed c.requires c.args.seen.now c.in_err-below.ensures)

pub returns : goal.returns
returns g c = rw (c.call_sizes.ensures.ones, c.call_sizes.ensures.variables) (call_on c.requires c.args.seen.now c.in_ok-below.ensures)
