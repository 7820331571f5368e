use mathlib.Core.Path.{refl, ◌∙◌}
use lib.IntN.{◌+ℤ◌}
use borrow.Author.Rules.{rules}
use Rattle.minuska.specs.Function.{whole_term}
use Rattle.value.specs.Builtin.{applied}
use Rattle.value.proofs.BuiltinLaw.{wholes, two_value, number_fits}
use Rattle.value.proofs.builtin.plus.Goals as goal

pub returns : goal.returns
unfolding applied
returns c = c.of_wholes.ensures _ (λ n p. number_fits n (c.args.a.datum +ℤ c.args.b.datum) (search rules)) ∙ two_value wholes c.args.a c.args.b (λ x y. whole_term (x +ℤ y)) _ refl
