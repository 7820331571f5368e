-- A word as a number below a bound.
use mathlib.Core.Path.{◌≡◌, refl, ap}
use mathlib.Core.Bool.{Bool, true, false}
use Prim.Native.Nat.{ℕ, ◌<◌}
use lib.Dec.{ltb}
use lib.IntN.{ℤ, pos, negsuc}
use borrow.Author.Tests.{ltb-true, lt-ltb}
use Rattle.std.specs.Prelude.{Some, None}
use Rattle.minuska.specs.Basics.{provided}
use Rattle.minuska.specs.Computed.Read.{number_below}
use Rattle.table.specs.Number.{answered}
use Rattle.table.proofs.BasicLaw.{never}

-- the number that is found
pub number_is : (b : ℕ) (z : ℤ) (n : ℕ) → Some n ≡ answered (number_below b z) → (z ≡ pos n) × (n < b)
number_is b (negsuc m) n e = absurd (never (cc))
number_is b (pos m) n e = pick (ltb m b) refl e
  where
    pick : (t : Bool) → ltb m b ≡ t → Some n ≡ answered (provided t m) → (pos m ≡ pos n) × (n < b)
    pick true q e = let p : m ≡ n = cc in let l = ltb-true m b q in (ap pos p, rw (← p) l)
    pick false q e = absurd (never (cc))

-- none is below the bound
pub number_none : (b : ℕ) (z : ℤ) → None ≡ answered (number_below b z) → (n : ℕ) → z ≡ pos n → n < b → ⊥
number_none b z e n q h =
    let f : None ≡ Some n = rw (q, lt-ltb n b h) at e in never (cc)
