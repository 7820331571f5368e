-- A call by its function's code: an update is no expression.
use mathlib.Core.Path.{◌≡◌, refl, ap}
use mathlib.Core.Bool.{Bool, true, false, not}
use Prim.Native.Nat.{ℕ}
use lib.Dec.{eqb}
use borrow.Author.Tests.{eqb-true}
use Rattle.minuska.specs.Rule.{updating, in_expression}

other : (c n : ℕ) → (c ≡ n → ⊥) → eqb c n ≡ false
other c n f = pick (eqb c n) refl
  where
    pick : (b : Bool) → eqb c n ≡ b → b ≡ false
    pick true e = absurd (f (eqb-true c n e))
    pick false e = refl

module _ (c : ℕ) where
  pub no_update : c ≡ updating → in_expression c ≡ false
  no_update e = ap in_expression e

  pub an_expression : (c ≡ updating → ⊥) → in_expression c ≡ true
  an_expression f = ap not (other c updating f)
