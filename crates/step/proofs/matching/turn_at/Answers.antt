-- Each answer is one lemma of `MatchingLaw` or `MatchingVariable` at the words that are read.
use Rattle.std.proofs.lemmas.Grind.{common_steps}
use Rattle.std.proofs.Common.{◌≡◌, None, ◌+◌, pos, rules, arith, w64, FitsSigned, get_or, sym, ap, of_z, refl}
use mathlib.Core.Path.{subst⁻¹}
use Rattle.std.proofs.lemmas.Int.{to_z-of_z}
use lib.Dec.{T}
use lib.Signed.{non_neg}
use Rattle.step.proofs.MatchingLaw.{same_word, room, ground_at_lem, last_ends, turned_same, turned_other}
use Rattle.step.proofs.MatchingVariable.{tag_three, number_read, number_fits, part_there, turned_bind, turned_found, turned_unfound}
use Rattle.step.proofs.matching.turn_at.Goals as goal
use Rattle.step.proofs.matching.turn_at.Goals.{then-tag-configuration-via-then-tag-configuration, then-tag-configuration-via-else-tag-configuration+then-datum-configuration}

pub bounds-table-i-2 : goal.bounds-table-i-2
bounds-table-i-2 c =
    omega (arith, (room c.requires).left)

pub bounds-configuration-j : goal.bounds-configuration-j
bounds-configuration-j c =
    omega (arith, (room c.requires).grounded)

pub bounds-configuration-j-else-tag-configuration : goal.bounds-configuration-j-else-tag-configuration
bounds-configuration-j-else-tag-configuration c =
    omega (arith, (room c.requires).grounded)

pub returns-then-tag-configuration : goal.returns-then-tag-configuration
returns-then-tag-configuration c =
    turned_other (λ e. c.if-tag-ne-VARIABLE.true (ap (of_z w64) e)) (elim c.then-tag-configuration.branch [
      | then-tag-configuration-via-then-tag-configuration w ↦ λ p q. w.if-tag-configuration.true (ap (of_z w64) p)
      | then-tag-configuration-via-else-tag-configuration+then-datum-configuration w ↦ λ p q. w.if-datum-configuration.true (ap (of_z w64) q)
    ])

pub returns-then-tag-ne-VARIABLE : goal.returns-then-tag-ne-VARIABLE
returns-then-tag-ne-VARIABLE c =
    let t : FitsSigned w64 (get_or c.args.table.now c.args.i (pos 0)) = search rules in
    let d : FitsSigned w64 (get_or c.args.table.now (c.args.i + 1) (pos 0)) = search rules in
    let x : FitsSigned w64 (get_or c.args.configuration.now c.args.j (pos 0)) = search rules in
    let y : FitsSigned w64 (get_or c.args.configuration.now (c.args.j + 1) (pos 0)) = search rules in
    turned_same (λ e. c.if-tag-ne-VARIABLE.true (ap (of_z w64) e)) (same_word t x c.if-tag-configuration.false) (same_word d y c.if-datum-configuration.false)

pub overflow_cast-v : goal.overflow_cast-v
overflow_cast-v c =
    let t : FitsSigned w64 (get_or c.args.table.now c.args.i (pos 0)) = search rules in
    let d : FitsSigned w64 (get_or c.args.table.now (c.args.i + 1) (pos 0)) = search rules in
    let h = number_fits (tag_three t c.if-tag-ne-VARIABLE.false) (number_read d) c.requires in
    (subst⁻¹ (λ y. T (non_neg y)) (to_z-of_z w64 _ d) h.0, record { fits = omega (arith, h.1) })

pub get-requires : goal.get-requires
get-requires c =
    let t : FitsSigned w64 (get_or c.args.table.now c.args.i (pos 0)) = search rules in
    let d : FitsSigned w64 (get_or c.args.table.now (c.args.i + 1) (pos 0)) = search rules in
    (number_fits (tag_three t c.if-tag-ne-VARIABLE.false) (number_read d) c.requires).1

pub returns-then-i-end : goal.returns-then-i-end
returns-then-i-end c =
    let t : FitsSigned w64 (get_or c.args.table.now c.args.i (pos 0)) = search rules in
    let d : FitsSigned w64 (get_or c.args.table.now (c.args.i + 1) (pos 0)) = search rules in
    turned_bind (tag_three t c.if-tag-ne-VARIABLE.false) (number_read d) (sym (c.in_default.ensures.unbound.0 refl)) refl (last_ends c.requires c.if-i-end.true)

pub ground_end-requires : goal.ground_end-requires
ground_end-requires c =
    ground_at_lem c.requires

pub returns-in_default : goal.returns-in_default
returns-in_default c =
    let t : FitsSigned w64 (get_or c.args.table.now c.args.i (pos 0)) = search rules in
    let d : FitsSigned w64 (get_or c.args.table.now (c.args.i + 1) (pos 0)) = search rules in
    turned_bind (tag_three t c.if-tag-ne-VARIABLE.false) (number_read d) (sym (c.in_default.ensures.unbound.0 refl)) refl c.ground_end.ensures

pub recurs-requires : goal.recurs-requires
recurs-requires c =
    let t : FitsSigned w64 (get_or c.args.table.now c.args.i (pos 0)) = search rules in
    let d : FitsSigned w64 (get_or c.args.table.now (c.args.i + 1) (pos 0)) = search rules in
    let w = part_there (tag_three t c.if-tag-ne-VARIABLE.false) (number_read d) c.in-Some.ensures.bound (λ q. let h = c.in-Some.ensures.unbound.1 q in cc) c.requires in
    (w.0, w.1, omega (arith, (room c.requires).grounded))

pub returns-in_err-to : goal.returns-in_err-to
returns-in_err-to c =
    let t : FitsSigned w64 (get_or c.args.table.now c.args.i (pos 0)) = search rules in
    let d : FitsSigned w64 (get_or c.args.table.now (c.args.i + 1) (pos 0)) = search rules in
    let e : c.from_residual.result ≡ None = grind (arith, common_steps) in
    rw e (turned_unfound (tag_three t c.if-tag-ne-VARIABLE.false) (number_read d) c.in-Some.ensures.bound (λ q. let h = c.in-Some.ensures.unbound.1 q in cc) c.in_err-to.ensures)

pub returns : goal.returns
returns c =
    let t : FitsSigned w64 (get_or c.args.table.now c.args.i (pos 0)) = search rules in
    let d : FitsSigned w64 (get_or c.args.table.now (c.args.i + 1) (pos 0)) = search rules in
    turned_found (tag_three t c.if-tag-ne-VARIABLE.false) (number_read d) c.in-Some.ensures.bound (λ q. let h = c.in-Some.ensures.unbound.1 q in cc) c.in_ok-to.ensures
