-- Which slice a turn reads and which it writes, side by side.
use mathlib.Core.Path.{◌≡◌, refl}
use mathlib.Core.List.{List}
use Prim.Native.Nat.{ℕ}
use lib.IntN.{ℤ}
use lib.ListN.{drop}
use Rattle.run.specs.declared.Side.{Side}
use Rattle.run.specs.declared.Side.TheVariants.{Initial, Out, Spare}
use Rattle.run.specs.Sides.{by_side, other}

-- the next configuration stands in the slice that the turn wrote
pub next_stands : (side : Side) (cs out spare : List ℤ) → by_side (other side) cs out spare ≡ by_side side out spare out
next_stands Initial cs out spare = refl
next_stands Out cs out spare = refl
next_stands Spare cs out spare = refl

-- the current one keeps
pub current_keeps : (side : Side) (cs out spare out' spare' : List ℤ) → by_side side spare' out' spare' ≡ by_side side spare out spare → by_side side cs out' spare' ≡ by_side side cs out spare
current_keeps Initial cs out spare out' spare' e = refl
current_keeps Out cs out spare out' spare' e = e
current_keeps Spare cs out spare out' spare' e = e

-- behind the limit both slices keep
module _ (n : ℕ) (out spare out' spare' : List ℤ) where
  pub both_behind : (side : Side) → drop n (by_side side out' spare' out') ≡ drop n (by_side side out spare out) → by_side side spare' out' spare' ≡ by_side side spare out spare →
      (drop n out' ≡ drop n out) × (drop n spare' ≡ drop n spare)
  both_behind Initial b k = (b, rw k)
  both_behind Out b k = (rw k, b)
  both_behind Spare b k = (b, rw k)

-- what holds of out and of spare holds of the one written
pub either : (P : List ℤ → Type 0) (side : Side) (out spare : List ℤ) → P out → P spare → P (by_side side out spare out)
either P Initial out spare p q = p
either P Out out spare p q = q
either P Spare out spare p q = p
