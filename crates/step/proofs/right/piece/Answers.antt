-- A variable's number is read from the table, and its part from the places.
use Rattle.std.proofs.Common.{◌+◌, rules, arith, w64, FitsSigned, get_or, pos, ap, of_z}
use Rattle.std.proofs.lemmas.Int.{to_z-of_z}
use mathlib.Core.Path.{subst⁻¹}
use lib.Dec.{T}
use lib.Signed.{non_neg}
use Rattle.step.proofs.MatchingVariable.{tag_three, number_read}
use Rattle.step.proofs.RightLaw.{piece_within, variable_fits, variable_is, node_is}
use Rattle.step.proofs.right.piece.Goals as goal

pub bounds-table-at-then-table-at-eq-VARIABLE : goal.bounds-table-at-then-table-at-eq-VARIABLE
bounds-table-at-then-table-at-eq-VARIABLE c = omega (arith, piece_within _ _ _ _ c.requires)

pub overflow_cast-table : goal.overflow_cast-table
overflow_cast-table c =
    let t : FitsSigned w64 (get_or c.args.table.now c.args.at (pos 0)) = search rules in
    let d : FitsSigned w64 (get_or c.args.table.now (c.args.at + 1) (pos 0)) = search rules in
    let h = variable_fits _ _ _ _ (tag_three t c.if-table-at-eq-VARIABLE.true) _ (number_read d) c.requires in
    (subst⁻¹ (λ y. T (non_neg y)) (to_z-of_z w64 _ d) h.0, record { fits = omega (arith, h.1) })

pub part-part-requires : goal.part-part-requires
part-part-requires c =
    let t : FitsSigned w64 (get_or c.args.table.now c.args.at (pos 0)) = search rules in
    let d : FitsSigned w64 (get_or c.args.table.now (c.args.at + 1) (pos 0)) = search rules in
    (variable_fits _ _ _ _ (tag_three t c.if-table-at-eq-VARIABLE.true) _ (number_read d) c.requires).1

pub returns-then-table-at-eq-VARIABLE : goal.returns-then-table-at-eq-VARIABLE
returns-then-table-at-eq-VARIABLE c =
    let t : FitsSigned w64 (get_or c.args.table.now c.args.at (pos 0)) = search rules in
    let d : FitsSigned w64 (get_or c.args.table.now (c.args.at + 1) (pos 0)) = search rules in
    rw c.part-part.ensures (variable_is _ _ _ _ (tag_three t c.if-table-at-eq-VARIABLE.true) _ (number_read d))

pub returns : goal.returns
returns c = node_is _ _ _ _ (λ e. c.if-table-at-eq-VARIABLE.false (ap (of_z w64) e)) c.requires.no_call
