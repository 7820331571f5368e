-- Rounding (document 02, request 2): "to nearest, an exact half to the even neighbour".
use Rattle.std.specs.Prelude.{◌≡◌, cond, ◌↔◌, ℕ, suc, ◌+◌, ◌*◌, ◌/◌, ◌%◌, ℤ, pos, negsuc, neg_ℤ, nat_abs, ◌-ℤ◌, ◌*ℤ◌, ◌≤ℤ◌, ltb}

-- |2·(z − q·c)|: twice the distance of q from z over c, in c-ths
abbrev pub twice_off : ℤ → ℤ → ℤ → ℤ
twice_off z c q = pos (nat_abs (pos 2 *ℤ (z -ℤ q *ℤ c)))

-- q is z over c to the nearest: it is off by a half at most, and even where it is off by a half.
pub record Nearest (z c q : ℤ) : Type 0 where
  pub near : twice_off z c q ≤ℤ c
  pub even : twice_off z c q ≡ c → nat_abs q % 2 ≡ 0

-- The same, computed. The quotient q and q + 1 lie around n over d; twice the rest says which is nearer; q + q % 2 is the even one.
abbrev pub nearer : ℕ → ℕ → ℕ → ℕ
nearer q twice_rest d = cond (ltb twice_rest d) q (cond (ltb d twice_rest) (q + 1) (q + q % 2))

abbrev pub nearest_nat : ℕ → ℕ → ℕ
nearest_nat n d = nearer (n / d) (2 * (n % d)) d

-- a negative number as its amount, with the sign again
abbrev pub nearest : ℤ → ℤ → ℤ
nearest (pos n) c = pos (nearest_nat n (nat_abs c))
nearest (negsuc n) c = neg_ℤ (pos (nearest_nat (suc n) (nat_abs c)))

-- What `proofs/NearestLaw` shows: over a c of 1 or more, this is the one number that is nearest.
abbrev pub OneNearest : Type 0
OneNearest = (z c q : ℤ) → pos 1 ≤ℤ c → (nearest z c ≡ q) ↔ Nearest z c q
