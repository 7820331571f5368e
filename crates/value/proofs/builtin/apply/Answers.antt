use mathlib.Core.Path.{refl, ◌∙◌, ap}
use mathlib.Core.Bool.{Bool, beq, ◌&&◌, ◌||◌}
use native.Mathlib.Omega.{arith}
use lib.Dec.{lit<}
use mir.Syntax.{w64}
use mir.Val.{SFits}
use borrow.Author.Rules.{rules}
use Rattle.minuska.specs.Term.{truth}
use Rattle.minuska.specs.Function.{truth_term}
use Rattle.value.specs.Builtin.{root_of, applied}
use Rattle.value.proofs.BuiltinLaw.{truths, wholes, two_value, tag_seen, is_there, no_function_lem}
use Rattle.value.proofs.builtin.apply.Goals as goal

pub returns-in-0 : goal.returns-in-0
unfolding applied
returns-in-0 c = rw c.in-0.is c.truth.ensures

pub returns-in-1 : goal.returns-in-1
unfolding applied
returns-in-1 c = rw c.in-1.is c.truth-in-1.ensures

pub returns-in-2 : goal.returns-in-2
unfolding applied
returns-in-2 c = rw c.in-2.is c.neg.ensures

pub returns-in-3 : goal.returns-in-3
unfolding applied
returns-in-3 c = rw c.in-3.is (c.truth_of_two.ensures ∙ two_value truths c.args.a c.args.b (λ x y. truth_term (x && y)) _ refl)

pub returns-in-4 : goal.returns-in-4
unfolding applied
returns-in-4 c = rw c.in-4.is (c.truth_of_two-in-4.ensures ∙ two_value truths c.args.a c.args.b (λ x y. truth_term (x || y)) _ refl)

pub returns-in-5 : goal.returns-in-5
unfolding applied
returns-in-5 c = rw c.in-5.is (c.truth_of_two-in-5.ensures ∙ two_value truths c.args.a c.args.b (λ x y. truth_term (beq x y)) _ refl)

pub returns-in-6 : goal.returns-in-6
unfolding applied
returns-in-6 c =
    let f : SFits w64 c.args.a.tag = search rules in
    rw c.in-6.is (c.truth-in-6.ensures ∙ ap (λ (b : Bool). root_of (truth b)) (tag_seen c.args.a.tag 1 f (lit< tt) ∙ is_there truths c.args.a))

pub returns-in-7 : goal.returns-in-7
unfolding applied
returns-in-7 c =
    let f : SFits w64 c.args.a.tag = search rules in
    rw c.in-7.is (c.truth-in-7.ensures ∙ ap (λ (b : Bool). root_of (truth b)) (tag_seen c.args.a.tag 2 f (lit< tt) ∙ is_there wholes c.args.a))

pub returns-in-13 : goal.returns-in-13
unfolding applied
returns-in-13 c = rw c.in-13.is c.same_symbol.ensures

pub returns-in-15 : goal.returns-in-15
unfolding applied
returns-in-15 c = rw c.in-15.is c.empty.ensures

pub returns-in_default : goal.returns-in_default
returns-in_default c = let f = c.requires.0 in let g = c.requires.1 in c.error.ensures ∙ ap root_of (no_function_lem _ _ _ _ (omega arith))
