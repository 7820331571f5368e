-- A call that is no lookup and no update.
use Rattle.std.proofs.Common.{rules, w64, FitsSigned, get_or, pos, ◌∙◌, sym}
use borrow.Author.Tests.{eqb-true}
use Rattle.step.proofs.MatchingVariable.{tag_four}
use Rattle.step.proofs.RightLaw.{one_node_by}
use Rattle.step.proofs.right.gives_one_node.Goals as goal
use Rattle.step.proofs.right.gives_one_node.Goals.{then-table-at-eq-CALL, else-table-at-eq-CALL}

pub returns-then-table-at-ne-LOOKUP : goal.returns-then-table-at-ne-LOOKUP
returns-then-table-at-ne-LOOKUP c =
    let t : FitsSigned w64 (get_or c.args.table.now c.args.at (pos 0)) = search rules in
    elim c.if-table-at-eq-CALL.branch [
      | then-table-at-eq-CALL w ↦ one_node_by _ _ (tag_four t w.if-table-at-eq-CALL.true) (sym w.value-is ∙ c.if-table-at-ne-LOOKUP.true)
      | else-table-at-eq-CALL w ↦ absurd (w.if-table-at-eq-CALL.false (eqb-true _ _ (sym w.value-is ∙ c.if-table-at-ne-LOOKUP.true)))
    ]
