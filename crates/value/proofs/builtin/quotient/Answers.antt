use mathlib.Core.Path.{◌≡◌, ap, subst, sym, ◌∙◌}
use mathlib.Core.Bool.{true}
use native.Mathlib.Omega.{arith}
use lib.Dec.{T}
use lib.IntN.{ℤ, ◌*ℤ◌}
use mir.Syntax.{w64}
use mir.Val.{SFits}
use mir.Facts.{to_z-of_z}
use borrow.Author.Rules.{rules}
use Rattle.std.proofs.lemmas.Int.{fits_signed_from_abs}
use Rattle.minuska.specs.Function.{share_range}
use Rattle.minuska.specs.Term.{whole}
use Rattle.minuska.proofs.ShareLaw.{in_range, product_size}
use Rattle.value.specs.Builtin.{root_of}
use Rattle.value.proofs.BuiltinLaw.{share_in}
use Rattle.value.proofs.builtin.quotient.Goals as goal

pub returns-then-in_range : goal.returns-then-in_range
returns-then-in_range c =
    let x = to_z-of_z c.ranges.a in
    let y = to_z-of_z c.ranges.b in
    let z = to_z-of_z c.ranges.c in
    let e : share_range c.args.a c.args.b c.args.c ≡ true = sym (rw (x, y, z) at c.in_range.ensures) ∙ c.if-in_range.true in
    let p = product_size c.args.a c.args.b c.args.c (in_range c.args.a c.args.b c.args.c (subst T (sym e) tt)) in
    let f : SFits w64 (c.args.a *ℤ c.args.b) = fits_signed_from_abs w64 _ (omega arith) in
    let g : SFits w64 c.nearest.result = search rules in
    c.whole.ensures ∙ (ap (λ (z : ℤ). root_of (whole z)) (to_z-of_z g ∙ (rw (x, y, z, to_z-of_z f) at c.nearest.ensures)) ∙ ap root_of (share_in c.args.a c.args.b c.args.c e))
