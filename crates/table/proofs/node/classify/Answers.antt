-- What is neither a variable, nor a call, nor a dictionary that is known, is a ground term's node or none.
use Rattle.std.proofs.Common.{rules, ◌∙◌, ap, sym, w64, of_z}
use mir.Facts.{to_z-of_z}
use mathlib.Core.Bool.{true≢false}
use Rattle.table.proofs.NodeLaw.{a_plain, no_plain}
use Rattle.table.proofs.node.classify.Goals as goal
use Rattle.table.proofs.node.classify.Goals.{else-this-ne0-via-then-this-ne0+else-t-eq-DICTIONARY, else-this-ne0-via-else-this-ne0}

pub returns-in_err-children : goal.returns-in_err-children
returns-in_err-children g c =
    let h = rw (to_z-of_z c.ranges.t, to_z-of_z c.ranges.d) at c.in_err-children.ensures.node in
    rw c.from_residual.ensures (λ m. no_plain c.args.t c.args.d h (λ e. c.if-t-eq-VARIABLE.false (ap (of_z w64) e)) (λ e. c.if-t-eq-CALL.false (ap (of_z w64) e)) (λ e. elim c.else-this-ne0.branch [
      | else-this-ne0-via-then-this-ne0+else-t-eq-DICTIONARY w ↦ w.if-t-eq-DICTIONARY.false (ap (of_z w64) e)
      | else-this-ne0-via-else-this-ne0 w ↦ true≢false (sym m ∙ search rules)
    ]))

pub returns : goal.returns
returns g c =
    let h = rw (to_z-of_z c.ranges.t, to_z-of_z c.ranges.d) at c.in_ok-children.ensures.node in
    let e = rw (to_z-of_z c.ranges.t) at c.in_ok-children.ensures.count in
    (rw e (a_plain c.args.t c.args.d h), λ m. tt)
