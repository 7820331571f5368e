use Rattle.std.proofs.Common.{◌≡◌, ◌∙◌, sym, length, ◌/◌, ℕ, Result, Ok, Err}
use mathlib.Core.Bool.{Bool}
use mathlib.Core.Path.{ap}
use Rattle.std.proofs.lemmas.Result.{err_from_is_err_and}
use Rattle.minuska.specs.declared.Refusal.{Refusal}
use Rattle.minuska.specs.Rule.{max_steps}
use Rattle.minuska.specs.Computed.Outcome.{run_short}
use Rattle.sizes.specs.Sizes.{size_check}
use Rattle.sizes.proofs.SizesLaw.{sized}
use Rattle.run.proofs.RefusingLaw.{late_refused}
use Rattle.run.proofs.EndingLaw.{turned_back_lem}
use Rattle.run.proofs.run_checked.Goals as goal

-- what the check of the sizes says, by the slices' lengths
size_is : (a b : Bool) (budget nodes limit : ℕ) (x y : Result (Unit {0}) Refusal) → x ≡ size_check budget max_steps nodes limit a → a ≡ b → x ≡ y → size_check budget max_steps nodes limit b ≡ y
size_is a b budget nodes limit x y e f g = ap (size_check budget max_steps nodes limit) (sym f) ∙ sym e ∙ g

-- the check of the sizes refuses
pub returns-in_err-check_sizes : goal.returns-in_err-check_sizes
returns-in_err-check_sizes c =
    let a = c.args in
    let p = err_from_is_err_and c.from_residual.result c.from_residual.ensures.1 in
    let e = c.in_err-check_sizes.field-0.0 in
    let i = a.game.table.indexed in
    let g = a.game.configuration.accepted in
    let s = size_is c.run_short-short.result _ a.budget (length a.game.configuration.words.now / 2) a.limit c.check_sizes.result (Err e) c.check_sizes.ensures c.run_short-short.ensures c.in_err-check_sizes.was in
    rw (p.1, p.2) (turned_back_lem a.game.table.words.now a.game.configuration.words.now a.budget a.limit a.out.now a.spare.now e
    (late_refused a.game.table.words.now a.game.configuration.words.now a.budget a.limit (length a.out.now) (length a.spare.now) i.table g.term i.is g.is e s))

pub run_accepted-requires : goal.run_accepted-requires
run_accepted-requires c =
    let a = c.args in
    let s = size_is c.run_short-short.result _ a.budget (length a.game.configuration.words.now / 2) a.limit c.check_sizes.result (Ok tt) c.check_sizes.ensures c.run_short-short.ensures c.in_ok-check_sizes.was in
    sized a.budget max_steps (length a.game.configuration.words.now / 2) a.limit (run_short a.limit (length a.out.now) (length a.spare.now)) s
