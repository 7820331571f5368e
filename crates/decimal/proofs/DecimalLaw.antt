-- The digits of a number: one digit less is the tenth of it, one digit more is ten times it and the digit; how many there are; what they begin with.
use mathlib.Core.Path.{◌≡◌, refl, sym, ap, ◌∙◌}
use mathlib.Core.List.{List, [], ◌∷◌, ◌++◌}
use Prim.Native.Nat.{ℕ, zero, suc, ◌+◌, ◌*◌, ◌/◌, ◌%◌, ◌^◌, ◌≤◌, ◌<◌}
use native.Mathlib.Omega.{arith}
use native.Mathlib.Nat.{pow-suc}
use lib.ListN.{length, length-append}
use Rattle.decimal.specs.Decimal.{digits_within, digits, decimal}

-- any bound that is large enough gives the same digits
enough : (f g n : ℕ) → n ≤ f → n ≤ g → digits_within f n ≡ digits_within g n
enough zero zero n p q = refl
enough zero (suc g) zero p q = refl
enough zero (suc g) (suc n) p q = absurd (omega arith)
enough (suc f) zero zero p q = refl
enough (suc f) zero (suc n) p q = absurd (omega arith)
enough (suc f) (suc g) zero p q = refl
enough (suc f) (suc g) (suc n) p q = ap (λ (t : List ℕ). t ++ ((48 + suc n % 10) ∷ [])) (enough f g (suc n / 10) (omega arith) (omega arith))

pub digits_zero : digits 0 ≡ []
unfolding digits
digits_zero = refl

pub digits_less : (n : ℕ) → 0 < n → digits n ≡ digits (n / 10) ++ ((48 + n % 10) ∷ [])
unfolding digits
digits_less zero p = absurd (omega arith)
digits_less (suc n) p = ap (λ (t : List ℕ). t ++ ((48 + suc n % 10) ∷ [])) (enough n (suc n / 10) (suc n / 10) (omega arith) (omega arith))

pub digits_more : (n d : ℕ) → d < 10 → 0 < n * 10 + d → digits (n * 10 + d) ≡ digits n ++ ((48 + d) ∷ [])
digits_more n d p q = digits_less (n * 10 + d) q ∙ (rw (tenth, last))
  where
    tenth : (n * 10 + d) / 10 ≡ n
    tenth = omega arith

    last : (n * 10 + d) % 10 ≡ d
    last = omega arith

pub decimal_positive : (n : ℕ) → 0 < n → decimal n ≡ digits n
unfolding decimal
decimal_positive n p = sym (digits_less n p)

pub decimal_zero : decimal 0 ≡ 48 ∷ []
unfolding decimal digits
decimal_zero = refl

pub decimal_is : (n : ℕ) → decimal n ≡ digits (n / 10) ++ ((48 + n % 10) ∷ [])
unfolding decimal
decimal_is n = refl

-- induction by tenths
tenths_step : (P : ℕ → Type 0) → P 0 → ((n : ℕ) → 0 < n → P (n / 10) → P n) → (n : ℕ) → (0 < n → P (n / 10)) → P n
tenths_step P z s zero h = z
tenths_step P z s (suc n) h = s (suc n) (omega arith) (h (omega arith))

tenths_within : (P : ℕ → Type 0) → P 0 → ((n : ℕ) → 0 < n → P (n / 10) → P n) → (f n : ℕ) → n ≤ f → P n
tenths_within P z s zero n p = tenths_step P z s n (λ q. absurd (omega arith))
tenths_within P z s (suc f) n p = tenths_step P z s n (λ q. tenths_within P z s f (n / 10) (omega arith))

pub by_tenths : (P : ℕ → Type 0) → P 0 → ((n : ℕ) → 0 < n → P (n / 10) → P n) → (n : ℕ) → P n
by_tenths P z s n = tenths_within P z s n n (omega arith)

-- ---- how many
one_more : (k n : ℕ) → n < 10 ^ suc k → (n / 10 < 10 ^ k → length (digits (n / 10)) ≤ k) → length (digits n) ≤ suc k
one_more k zero p h = rw digits_zero (omega arith)
one_more k (suc n) p h =
    let p' : suc n < 10 ^ k * 10 = rw pow-suc at p in
    let i : length (digits (suc n / 10)) ≤ k = h (omega arith) in
    rw (digits_less (suc n) (omega arith), length-append) (omega arith)

pub digits_length : (k n : ℕ) → n < 10 ^ k → length (digits n) ≤ k
digits_length zero n p = let e : n ≡ 0 = omega arith in rw (e, digits_zero) (omega arith)
digits_length (suc k) n p = one_more k n p (λ h. digits_length k (n / 10) h)

pub decimal_length : (n : ℕ) → n < 2 ^ 64 → length (decimal n) ≤ 20
decimal_length n p =
    let i : length (digits (n / 10)) ≤ 19 = digits_length 19 (n / 10) (omega arith) in
    rw (decimal_is n, length-append) (omega arith)

-- ---- the first digit is no zero
pub record Head (n : ℕ) : Type 0 where
  pub first : ℕ
  pub others : List ℕ
  pub is : digits n ≡ first ∷ others
  pub low : 48 < first
  pub high : first ≤ 57

head_more : (n t : ℕ) → 0 < n → n / 10 ≡ t → (0 < n / 10 → Head (n / 10)) → Head n
head_more n zero p e i = record { first = 48 + n % 10; others = []; is = digits_less n p ∙ rw (e, digits_zero); low = omega arith; high = omega arith }
head_more n (suc t) p e i =
    let h : Head (n / 10) = i (omega arith) in
    record { first = h.first; others = h.others ++ ((48 + n % 10) ∷ []); is = digits_less n p ∙ rw h.is; low = h.low; high = h.high }

pub head : (n : ℕ) → 0 < n → Head n
head = by_tenths (λ n. 0 < n → Head n) (λ p. absurd (omega arith)) (λ n p i q. head_more n (n / 10) p refl i)
