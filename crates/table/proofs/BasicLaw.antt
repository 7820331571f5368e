-- Partial values of which nothing comes; and what two different constructors prove.
use mathlib.Core.Path.{◌≡◌, refl}
use mathlib.Core.Bool.{Bool, true, false}
use mathlib.Core.Option.{Option, none, some}
use Prim.Native.Nat.{ℕ}
use native.Mathlib.Omega.{arith}
use lib.Dec.{T}
use Rattle.minuska.specs.Basics.{◌>>=◌, provided}

-- nothing comes of a step after which nothing comes
pub none_after : {A B : Type 0} (o : Option A) (f : A → Option B) → ((a : A) → o ≡ some a → f a ≡ none) → (o >>= f) ≡ none
none_after none f h = refl
none_after (some a) f h = h a refl

pub refused : {A : Type 0} (b : Bool) (a : A) → (T b → ⊥) → provided b a ≡ none
refused true a h = absurd (h tt)
refused false a h = refl

-- what `cc` proves of two constructors that are equal
pub never : ◌≡◌ {A = ℕ} 0 1 → ⊥
never e = omega arith
