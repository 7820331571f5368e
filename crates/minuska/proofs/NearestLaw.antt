-- To the nearest (document 02, request 2): for c of 1 or more, q is computed exactly if |2·(z − q·c)| is at most c, and q is even where that is c.
use mathlib.Core.Path.{◌≡◌, refl, sym, ap, ◌∙◌, subst}
use mathlib.Core.Bool.{Bool, true, false, cond}
use mathlib.Core.Logic.{◌↔◌}
use Prim.Native.Nat.{ℕ, zero, suc, ◌+◌, ◌-◌, ◌*◌, ◌/◌, ◌%◌, ◌≤◌, ◌<◌}
use native.Mathlib.Nat.{mod-lt, div-add-mod', mul-le-mul_left, mul-le-mul_right, zero-mul}
use native.Mathlib.Omega.{arith}
use lib.IntN.{ℤ, pos, negsuc, neg_ℤ, nat_abs, ◌+ℤ◌, ◌-ℤ◌, ◌*ℤ◌, neg_ℤ-neg_ℤ, neg_ℤ-+ℤ}
use lib.Signed.{le_z, ◌≤ℤ◌}
use lib.Dec.{T, ltb, leb→le, le→leb}
use borrow.Author.Tests.{ltb-true, ltb-false}
use Rattle.minuska.specs.Nearest.{twice_off, Nearest, nearest_nat, nearest, OneNearest}
use Rattle.minuska.proofs.Tests.{exactly}

-- ---- of amounts: the same without signs
abbrev apart : ℕ → ℕ → ℕ
apart a b = (a - b) + (b - a)

record Near (n d k : ℕ) : Type 0 where
  near : 2 * apart n (k * d) ≤ d
  even : 2 * apart n (k * d) ≡ d → k % 2 ≡ 0

module _ (n d : ℕ) (h : 0 < d) where
  module _ (q r : ℕ) (e : q * d + r ≡ n) (l : r < d) where
    lower : 2 * r < d → Near n d q
    lower b = omega arith

    upper : d < 2 * r → Near n d (q + 1)
    upper b = omega arith

    even_one : (p : ℕ) → q % 2 ≡ p → 2 * r ≡ d → Near n d (q + p)
    even_one zero o b = omega arith
    even_one (suc zero) o b = omega arith
    even_one (suc (suc p)) o b = absurd (omega (arith, mod-lt q {m = 2} (omega arith)))

    one_of : (s t : Bool) → ltb (2 * r) d ≡ s → ltb d (2 * r) ≡ t → Near n d (cond s q (cond t (q + 1) (q + q % 2)))
    one_of true t a b = lower (ltb-true (2 * r) d a)
    one_of false true a b = upper (ltb-true d (2 * r) b)
    one_of false false a b = even_one (q % 2) refl (let x = ltb-false (2 * r) d a in let y = ltb-false d (2 * r) b in omega arith)

  near_nearest : Near n d (nearest_nat n d)
  near_nearest = one_of (n / d) (n % d) (div-add-mod' n d) (mod-lt n h) (ltb (2 * (n % d)) d) (ltb d (2 * (n % d))) refl refl

  -- two such numbers differ by one at most, and then both are even
  no_two : (k j : ℕ) → Near n d k → Near n d j → k < j → ⊥
  no_two k j x y l = further (ltb (suc k) j) refl
    where
      one_on : suc k * d ≤ j * d
      one_on = mul-le-mul_right d l

      further : (t : Bool) → ltb (suc k) j ≡ t → ⊥
      further true t = let two_on : suc (suc k) * d ≤ j * d = mul-le-mul_right d (ltb-true (suc k) j t) in omega arith
      further false t =
          let m = one_on in
          let a = x.even (omega arith) in
          let b = y.even (omega arith) in
          let e = ltb-false (suc k) j t in
          omega arith

  near_unique : (k j : ℕ) → Near n d k → Near n d j → k ≡ j
  near_unique k j x y = side (ltb k j) (ltb j k) refl refl
    where
      side : (s t : Bool) → ltb k j ≡ s → ltb j k ≡ t → k ≡ j
      side true t a b = absurd (no_two k j x y (ltb-true k j a))
      side false true a b = absurd (no_two j k y x (ltb-true j k b))
      side false false a b = let u = ltb-false k j a in let v = ltb-false j k b in omega arith

-- ---- of whole numbers
pub abs_neg : (z : ℤ) → nat_abs (neg_ℤ z) ≡ nat_abs z
abs_neg (pos zero) = refl
abs_neg (pos (suc n)) = refl
abs_neg (negsuc n) = refl

pub abs_mul : (a b : ℤ) → nat_abs (a *ℤ b) ≡ nat_abs a * nat_abs b
abs_mul (pos a) (pos b) = refl
abs_mul (pos a) (negsuc b) = abs_neg (pos (a * suc b))
abs_mul (negsuc a) (pos b) = abs_neg (pos (suc a * b))
abs_mul (negsuc a) (negsuc b) = refl

neg_mul : (q : ℤ) (d : ℕ) → neg_ℤ q *ℤ pos d ≡ neg_ℤ (q *ℤ pos d)
neg_mul (pos zero) d = rw (zero-mul d) refl
neg_mul (pos (suc k)) d = refl
neg_mul (negsuc k) d = sym (neg_ℤ-neg_ℤ (pos (suc k * d)))

abs_sub : (n m : ℕ) → nat_abs (pos n -ℤ pos m) ≡ apart n m
abs_sub n zero = omega arith
abs_sub n (suc m) = side (ltb n (suc m)) refl
  where
    side : (t : Bool) → ltb n (suc m) ≡ t → nat_abs (cond t (negsuc (suc m - suc n)) (pos (n - suc m))) ≡ apart n (suc m)
    side true t = let l = ltb-true n (suc m) t in omega arith
    side false t = let l = ltb-false n (suc m) t in omega arith

-- the distance, without signs and for the numbers' opposites
off_is : (z c q : ℤ) → twice_off z c q ≡ pos (2 * nat_abs (z -ℤ q *ℤ c))
off_is z c q = ap pos (abs_mul (pos 2) (z -ℤ q *ℤ c))

off_pos : (n d k : ℕ) → twice_off (pos n) (pos d) (pos k) ≡ pos (2 * apart n (k * d))
off_pos n d k = off_is (pos n) (pos d) (pos k) ∙ ap (λ (m : ℕ). pos (2 * m)) (abs_sub n (k * d))

off_negsuc : (n d k : ℕ) → twice_off (pos n) (pos d) (negsuc k) ≡ pos (2 * (n + suc k * d))
off_negsuc n d k = off_is (pos n) (pos d) (negsuc k) ∙ ap (λ z. pos (2 * nat_abs (pos n +ℤ z))) (neg_ℤ-neg_ℤ (pos (suc k * d)))

off_neg : (z q : ℤ) (d : ℕ) → twice_off (neg_ℤ z) (pos d) (neg_ℤ q) ≡ twice_off z (pos d) q
off_neg z q d =
    off_is (neg_ℤ z) (pos d) (neg_ℤ q) ∙
    ap (λ y. pos (2 * nat_abs (neg_ℤ z -ℤ y))) (neg_mul q d) ∙
    ap (λ y. pos (2 * nat_abs y)) (sym (neg_ℤ-+ℤ z (neg_ℤ (q *ℤ pos d)))) ∙
    ap (λ m. pos (2 * m)) (abs_neg (z -ℤ q *ℤ pos d)) ∙
    sym (off_is z (pos d) q)

nearest_neg : (z q : ℤ) (d : ℕ) → Nearest z (pos d) q → Nearest (neg_ℤ z) (pos d) (neg_ℤ q)
nearest_neg z q d x = record { near = rw (off_neg z q d) x.near; even = rw (off_neg z q d, abs_neg q) x.even }

nearest_pos : (n d k : ℕ) → Near n d k → Nearest (pos n) (pos d) (pos k)
nearest_pos n d k x = record { near = rw (off_pos n d k) (record { le = le→leb (2 * apart n (k * d)) d x.near }); even = λ e. let h = x.even (ap nat_abs (sym (off_pos n d k) ∙ e)) in omega arith }

pos_nearest : (n d k : ℕ) → Nearest (pos n) (pos d) (pos k) → Near n d k
pos_nearest n d k x = record { near = leb→le (2 * apart n (k * d)) d (subst (λ o. T (le_z o (pos d))) (off_pos n d k) x.near.le); even = λ e. let h = x.even (off_pos n d k ∙ ap pos e) in omega arith }

never_negative : (n d k : ℕ) → 0 < d → Nearest (pos n) (pos d) (negsuc k) → ⊥
never_negative n d k h x = let l = leb→le (2 * (n + suc k * d)) d (subst (λ o. T (le_z o (pos d))) (off_negsuc n d k) x.near.le) in omega arith

-- ---- what is computed is the one nearest
module _ (d : ℕ) (h : 0 < d) where
  amount_nearest : (n : ℕ) → Nearest (pos n) (pos d) (pos (nearest_nat n d))
  amount_nearest n = nearest_pos n d (nearest_nat n d) (near_nearest n d h)

  is_nearest : (z : ℤ) → Nearest z (pos d) (nearest z (pos d))
  is_nearest (pos n) = amount_nearest n
  is_nearest (negsuc n) = nearest_neg (pos (suc n)) (pos (nearest_nat (suc n) d)) d (amount_nearest (suc n))

  one_amount : (n : ℕ) (p q : ℤ) → Nearest (pos n) (pos d) p → Nearest (pos n) (pos d) q → p ≡ q
  one_amount n (pos k) (pos j) x y = ap pos (near_unique n d h k j (pos_nearest n d k x) (pos_nearest n d j y))
  one_amount n (pos k) (negsuc j) x y = absurd (never_negative n d j h y)
  one_amount n (negsuc k) q x y = absurd (never_negative n d k h x)

  one_nearest : (z p q : ℤ) → Nearest z (pos d) p → Nearest z (pos d) q → p ≡ q
  one_nearest (pos n) p q x y = one_amount n p q x y
  one_nearest (negsuc n) p q x y = sym (neg_ℤ-neg_ℤ p) ∙ ap neg_ℤ (one_amount (suc n) (neg_ℤ p) (neg_ℤ q) (nearest_neg (negsuc n) p d x) (nearest_neg (negsuc n) q d y)) ∙ neg_ℤ-neg_ℤ q

  the_nearest : (z q : ℤ) → (nearest z (pos d) ≡ q) ↔ Nearest z (pos d) q
  the_nearest z = exactly (Nearest z (pos d)) (nearest z (pos d)) (is_nearest z) (λ q. one_nearest z (nearest z (pos d)) q (is_nearest z))

pub nearest_iff : OneNearest
nearest_iff z (pos d) q h = the_nearest d (leb→le 1 d h.le) z q
nearest_iff z (negsuc d) q h = absurd h.le

-- ---- its size: no further from 0 than the number itself
pub nearest_size : (n d : ℕ) → 0 < d → nearest_nat n d ≤ n
nearest_size n d h = side (ltb n (nearest_nat n d)) refl
  where
    side : (t : Bool) → ltb n (nearest_nat n d) ≡ t → nearest_nat n d ≤ n
    side true t =
        let above : suc n * d ≤ nearest_nat n d * d = mul-le-mul_right d (ltb-true n (nearest_nat n d) t) in
        let once : n * 1 ≤ n * d = mul-le-mul_left n h in
        let x = (near_nearest n d h).near in
        absurd (omega arith)
    side false t = ltb-false n (nearest_nat n d) t

pub abs_nearest : (z c : ℤ) → pos 1 ≤ℤ c → nat_abs (nearest z c) ≤ nat_abs z
abs_nearest (pos n) (pos d) h = nearest_size n d (leb→le 1 d h.le)
abs_nearest (negsuc n) (pos d) h = rw (abs_neg (pos (nearest_nat (suc n) d))) (nearest_size (suc n) d (leb→le 1 d h.le))
abs_nearest (pos n) (negsuc d) h = absurd h.le
abs_nearest (negsuc n) (negsuc d) h = absurd h.le
