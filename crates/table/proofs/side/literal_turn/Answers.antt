-- A dictionary, and all below it.
use Rattle.std.proofs.Common.{arith, []}
use Rattle.table.proofs.KindLaw.{literal_few, literal_missed, literal_side}
use Rattle.table.proofs.side.literal_turn.Goals as goal

pub ground_end-requires : goal.ground_end-requires
ground_end-requires g c = let h = c.requires in (h.node.room, literal_few h)

pub returns-in_err-below : goal.returns-in_err-below
returns-in_err-below g c = rw c.from_residual.ensures (record { at = λ l seen. literal_missed c.requires l seen (c.in_err-below.ensures.is seen) })

pub overflow_sub-result : goal.overflow_sub-result
overflow_sub-result g c = let w = (c.in_ok-below.ensures.is []).reaches.later in omega arith

pub returns : goal.returns
returns g c = record { at = λ l seen. literal_side c.requires l seen (c.in_ok-below.ensures.is seen) }
