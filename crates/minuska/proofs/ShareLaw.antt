-- z.share within its ranges (document 02, request 2): its value is q exactly if q is A times B over C, to the nearest; and how large the product is.
use mathlib.Core.Path.{◌≡◌, ap}
use mathlib.Core.Bool.{Bool, true, false, ◌&&◌, cond}
use mathlib.Core.Logic.Iff
use mathlib.Core.Logic.{◌↔◌}
use mathlib.Core.Option.{some-injective}
use Prim.Native.Nat.{◌*◌, ◌≤◌}
use native.Mathlib.Nat.{mul-le-mul}
use lib.IntN.{ℤ, pos, nat_abs, ◌*ℤ◌}
use lib.Signed.{le_z, ◌≤ℤ◌}
use lib.Dec.{T, leb, leb→le}
use Rattle.minuska.specs.Term.{whole, Term, cons, single, leaf, as_whole}
use Rattle.minuska.specs.Nearest.{Nearest, nearest}
use Rattle.minuska.specs.Function.{out_of_range, share_range, interpret}
use Rattle.minuska.proofs.Tests.{and_left, and_right}
use Rattle.minuska.proofs.NearestLaw.{abs_mul, nearest_iff}

-- the ranges, one by one
pub record InRange (a b c : ℤ) : Type 0 where
  pub first : nat_abs a ≤ 2147483647
  pub second : nat_abs b ≤ 2147483647
  pub low : pos 1 ≤ℤ c
  pub high : c ≤ℤ pos 2147483647

pub in_range : (a b c : ℤ) → T (share_range a b c) → InRange a b c
in_range a b c w =
    let s = leb (nat_abs a) 2147483647 in
    let t = leb (nat_abs b) 2147483647 in
    let u = le_z (pos 1) c in
    let v = le_z c (pos 2147483647) in
    let x = and_left (s && t && u) v w in
    let y = and_left (s && t) u x in
    record { first = leb→le (nat_abs a) 2147483647 (and_left s t y); second = leb→le (nat_abs b) 2147483647 (and_right s t y); low = record { le = and_right (s && t) u x }; high = record { le = and_right (s && t && u) v w } }

-- |A × B| is below 2^62
pub product_size : (a b c : ℤ) → InRange a b c → nat_abs (a *ℤ b) ≤ 2147483647 * 2147483647
product_size a b c r = rw (abs_mul a b) (mul-le-mul r.first r.second)

whole_iff : (r : Bool) → T r → (z q : ℤ) → (cond r (leaf (whole z)) out_of_range ≡ leaf (whole q)) ↔ (z ≡ q)
whole_iff true t z q = (λ e. some-injective z q (ap (λ (u : Term). as_whole u.label) e), λ e. ap (λ (n : ℤ). leaf (whole n)) e)
whole_iff false t z q = absurd t

-- the function, 14, at three whole numbers
abbrev pub share : ℤ → ℤ → ℤ → Term
share a b c = interpret 14 (cons (leaf (whole a)) (cons (leaf (whole b)) (single (leaf (whole c)))))

pub share_iff : (a b c q : ℤ) → T (share_range a b c) → (share a b c ≡ leaf (whole q)) ↔ Nearest (a *ℤ b) c q
share_iff a b c q x = Iff.trans (whole_iff (share_range a b c) x (nearest (a *ℤ b) c) q) (nearest_iff (a *ℤ b) c q (in_range a b c x).low)
