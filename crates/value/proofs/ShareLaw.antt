-- z.share's rounding: the nearer of two numbers by one test, and that the next number fits: what `nearest_amount` (`rounding.rt`) goes by.
use mathlib.Core.Path.{◌≡◌, refl}
use mathlib.Core.Bool.{Bool, true, false, cond}
use Prim.Native.Nat.{ℕ, ◌+◌, ◌*◌, ◌/◌, ◌%◌, ◌^◌, ◌≤◌, ◌<◌}
use native.Mathlib.Nat.{mod-lt, div-add-mod', mul-le-mul_left}
use native.Mathlib.Omega.{arith}
use lib.Dec.{ltb}
use borrow.Author.Tests.{ltb-true, ltb-false}
use Rattle.minuska.specs.Nearest.{nearer}

-- the nearer of q and the next number, by one test: is twice the rest, one more at an odd q, above d?
module _ (q r d : ℕ) where
  abbrev picked : Bool → Bool → ℕ
  picked s t = cond s q (cond t (q + 1) (q + q % 2))

  pub further : d < 2 * r + q % 2 → q + 1 ≡ nearer q (2 * r) d
  further h = sides (ltb (2 * r) d) (ltb d (2 * r)) refl refl
    where
      sides : (s t : Bool) → ltb (2 * r) d ≡ s → ltb d (2 * r) ≡ t → q + 1 ≡ picked s t
      sides true t a b = absurd (omega (arith, ltb-true (2 * r) d a))
      sides false true a b = refl
      sides false false a b = omega (arith, ltb-false (2 * r) d a, ltb-false d (2 * r) b)

  pub not_further : 2 * r + q % 2 ≤ d → q ≡ nearer q (2 * r) d
  not_further h = sides (ltb (2 * r) d) (ltb d (2 * r)) refl refl
    where
      sides : (s t : Bool) → ltb (2 * r) d ≡ s → ltb d (2 * r) ≡ t → q ≡ picked s t
      sides true t a b = refl
      sides false true a b = absurd (omega (arith, ltb-true d (2 * r) b))
      sides false false a b = omega (arith, ltb-false (2 * r) d a, ltb-false d (2 * r) b)

-- the next number fits where n does: a rest of a half or more is left by a d of 2 or more only
pub next_fits : (n d : ℕ) → n < 2 ^ 64 → 0 < d → d ≤ 2 * (n % d) → n / d + 1 < 2 ^ 64
next_fits n d f h l =
    let r = mod-lt n h in
    let e = div-add-mod' n d in
    let two : 2 ≤ d = omega arith in
    let m : n / d * 2 ≤ n / d * d = mul-le-mul_left (n / d) two in
    omega arith
