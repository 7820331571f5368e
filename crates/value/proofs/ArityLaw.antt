-- A function's arity: `term`'s shut name, opened; at most three arguments.
use mathlib.Core.Path.{◌≡◌, refl}
use Prim.Native.Nat.{ℕ, ◌≤◌}
use Rattle.minuska.specs.Function.{function_at}
use Rattle.minuska.proofs.NodeLaw.{arity_most}
use Rattle.term.specs.TermEnd.{arity_of}

pub arity_is : (c : ℕ) → arity_of c ≡ (function_at c).arity
unfolding arity_of
arity_is c = refl

pub arity_few : (c : ℕ) → arity_of c ≤ 3
unfolding arity_of
arity_few c = arity_most 3 tt c
