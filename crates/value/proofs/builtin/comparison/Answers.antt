use Rattle.std.proofs.Common.{◌≡◌, arith}
use mathlib.Core.Path.{refl, ◌∙◌}
use lib.Signed.{le_z, lt_z}
use mir.Syntax.{w64}
use mir.Val.{SFits}
use mir.Facts.{to_z-of_z}
use borrow.Author.Rules.{rules}
use Rattle.minuska.specs.Basics.{same_whole}
use Rattle.minuska.specs.Function.{truth_term}
use Rattle.value.specs.Builtin.{applied}
use Rattle.value.proofs.SignedLaw.{eq_bits}
use Rattle.value.proofs.BuiltinLaw.{wholes, two_value}
use Rattle.value.proofs.builtin.comparison.Goals as goal

pub returns-then-code-eq10 : goal.returns-then-code-eq10
unfolding applied
returns-then-code-eq10 c = λ l.
    let f : SFits w64 c.args.a.datum = search rules in
    let g : SFits w64 c.args.b.datum = search rules in
    rw c.if-code-eq10.true ((rw (eq_bits c.args.a.datum c.args.b.datum f.sfits g.sfits) at c.truth_of_two.ensures) ∙ two_value wholes c.args.a c.args.b (λ x y. truth_term (same_whole x y)) _ refl)

pub returns-then-code-eq11 : goal.returns-then-code-eq11
unfolding applied
returns-then-code-eq11 c = λ l.
    let f : SFits w64 c.args.a.datum = search rules in
    let g : SFits w64 c.args.b.datum = search rules in
    rw c.if-code-eq11.true ((rw (to_z-of_z f, to_z-of_z g) at c.truth_of_two-then-code-eq11.ensures) ∙ two_value wholes c.args.a c.args.b (λ x y. truth_term (le_z x y)) _ refl)

pub returns : goal.returns
unfolding applied
returns c = λ l.
    let f : SFits w64 c.args.a.datum = search rules in
    let g : SFits w64 c.args.b.datum = search rules in
    let p = c.if-code-eq10.false in
    let q = c.if-code-eq11.false in
    let e : c.args.code ≡ 12 = omega arith in
    rw e ((rw (to_z-of_z f, to_z-of_z g) at c.truth_of_two-2.ensures) ∙ two_value wholes c.args.a c.args.b (λ x y. truth_term (lt_z x y)) _ refl)
