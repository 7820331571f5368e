-- The code that is found, as the two words say it.
use Rattle.table.proofs.NodeLaw.{no_call_lem, call_words, a_call_lem}
use mir.Facts.{to_z-of_z}
use Rattle.table.proofs.node.call.Goals as goal

pub returns-in_err-code : goal.returns-in_err-code
returns-in_err-code g c =
    let h = rw (c.functions.ensures, to_z-of_z c.ranges.d) at c.in_err-code.ensures in
    rw c.from_residual.ensures (no_call_lem _ _ h)

pub children-children-requires : goal.children-children-requires
children-children-requires g c =
    let h = rw (c.functions.ensures, to_z-of_z c.ranges.d) at c.in_ok-code.ensures in
    rw (to_z-of_z c.ranges.d) (call_words _ _ _ h)

pub returns : goal.returns
returns g c =
    let h = rw (c.functions.ensures, to_z-of_z c.ranges.d) at c.in_ok-code.ensures in
    let e = rw (to_z-of_z c.ranges.d) at c.children-children.ensures in
    rw e (a_call_lem _ _ _ h)
