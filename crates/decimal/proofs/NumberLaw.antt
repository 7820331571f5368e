-- The number reader is complete: the text of a number that ends at a comma or at the line's end is read as that number. A printed number reads back.
use mathlib.Core.Path.{◌≡◌, refl, sym, ap, ◌∙◌}
use mathlib.Core.Bool.{Bool, true, false, cond}
use mathlib.Core.List.{List, [], ◌∷◌, ◌++◌, append_assoc}
use Prim.Native.Nat.{ℕ, zero, suc, ◌+◌, ◌-◌, ◌*◌, ◌/◌, ◌%◌, ◌^◌, ◌≤◌, ◌<◌}
use native.Mathlib.Omega.{arith}
use native.Mathlib.Nat.{add-zero}
use native.Mathlib.Numerals.{add-one}
use lib.IntN.{ℤ, pos, negsuc}
use lib.Dec.{ltb}
use lib.ListN.{length, drop, get_or, length-append, length-drop}
use lib.Seq.{get_or-drop}
use borrow.Author.Tests.{ltb-false, lt-ltb, le-ltb, ne_eqb}
use Rattle.std.specs.Prelude.{None, Some}
use Rattle.decimal.specs.Decimal.{digits, decimal, whole_text}
use Rattle.decimal.specs.Number.{number_of, Small, Ends}
use Rattle.decimal.specs.Computed.Number.{digit_of, digits_from, natural_from, plain, negated, signed_from, is_end, ended_in, number_at}
use Rattle.decimal.proofs.ListLaw.{behind, within}
use Rattle.decimal.proofs.DecimalLaw.{digits_zero, digits_less, decimal_is, decimal_positive, decimal_zero, by_tenths, Head, head}

-- ---- digits
pub a_digit : (b : ℕ) → 48 ≤ b → b ≤ 57 → digit_of b ≡ Some (b - 48)
unfolding digit_of
a_digit b p q = rw (le-ltb b 48, le-ltb 57 b)

pub below_digits : (b : ℕ) → b < 48 → digit_of b ≡ None
unfolding digit_of
below_digits b p = rw (lt-ltb b 48)

-- a byte with a digit is that digit's
pub digit_byte : (b d : ℕ) → digit_of b ≡ Some d → (b ≡ 48 + d) × (d < 10)
unfolding digit_of
digit_byte b d p = go (ltb b 48) (ltb 57 b) refl refl p
  where
    go : (s t : Bool) → ltb b 48 ≡ s → ltb 57 b ≡ t → cond s None (cond t None (Some (b - 48))) ≡ Some d → (b ≡ 48 + d) × (d < 10)
    go true t e f h = let z : ◌≡◌ {A = ℕ} 0 1 = cc in absurd (omega arith)
    go false true e f h = let z : ◌≡◌ {A = ℕ} 0 1 = cc in absurd (omega arith)
    go false false e f h = let is : b - 48 ≡ d = cc in (omega (arith, ltb-false b 48 e, is), omega (arith, ltb-false b 48 e, ltb-false 57 b f, is))

digit_small : (d : ℕ) → d < 10 → digit_of (48 + d) ≡ Some d
digit_small d p = a_digit (48 + d) (omega arith) (omega arith) ∙ ap Some (omega arith)

-- one digit more; no digit
step : (n at b d : ℕ) (bs : List ℕ) → digit_of b ≡ Some d → n * 10 + d < 2 ^ 64 → digits_from n at (b ∷ bs) ≡ digits_from (n * 10 + d) (suc at) bs
unfolding digits_from
step n at b d bs e q = rw (e, lt-ltb (n * 10 + d) (2 ^ 64))

abbrev Stops : List ℕ → Type 0
Stops [] = Unit {0}
Stops (b ∷ bs) = digit_of b ≡ None

stop : (n at : ℕ) (bs : List ℕ) → Stops bs → digits_from n at bs ≡ Some (n, at)
unfolding digits_from
stop n at [] h = refl
stop n at (b ∷ bs) h = rw h

-- ---- complete: the text of a number is read as the number
read_more : (n at : ℕ) (rest : List ℕ) → n < 2 ^ 64 → 0 < n →
    ((more : List ℕ) → digits_from 0 at (digits (n / 10) ++ more) ≡ digits_from (n / 10) (at + length (digits (n / 10))) more) →
    digits_from 0 at (digits n ++ rest) ≡ digits_from n (at + length (digits n)) rest
read_more n at rest p q h =
    let whole : n / 10 * 10 + n % 10 ≡ n = omega arith in
    let moved : suc (at + length (digits (n / 10))) ≡ at + length (digits n) = rw (digits_less n q, length-append) (omega arith) in
    ap (λ (t : List ℕ). digits_from 0 at (t ++ rest)) (digits_less n q) ∙
    (ap (digits_from 0 at) (append_assoc (digits (n / 10)) ((48 + n % 10) ∷ []) rest) ∙
    (h ((48 + n % 10) ∷ rest) ∙
    (step (n / 10) (at + length (digits (n / 10))) (48 + n % 10) (n % 10) rest (digit_small (n % 10) (omega arith)) (omega arith) ∙
    (ap (λ (m : ℕ). digits_from m (suc (at + length (digits (n / 10)))) rest) whole ∙ ap (λ (e : ℕ). digits_from n e rest) moved))))

read_digits : (at n : ℕ) → n < 2 ^ 64 → (rest : List ℕ) → digits_from 0 at (digits n ++ rest) ≡ digits_from n (at + length (digits n)) rest
read_digits at =
    by_tenths (λ n. n < 2 ^ 64 → (rest : List ℕ) → digits_from 0 at (digits n ++ rest) ≡ digits_from n (at + length (digits n)) rest)
    (λ p rest. rw (digits_zero, add-zero))
    (λ n q i p rest. read_more n at rest p q (i (omega arith)))

-- a first digit that is no zero
first_digit : (at c : ℕ) (bs : List ℕ) → 48 < c → c ≤ 57 → natural_from at (c ∷ bs) ≡ digits_from 0 at (c ∷ bs)
unfolding natural_from
first_digit at c bs p q =
    let d : digit_of c ≡ Some (c - 48) = a_digit c (omega arith) q in
    let nought : 0 * 10 + (c - 48) ≡ c - 48 = omega arith in
    rw (step 0 at c (c - 48) bs d (omega arith), nought, d, ne_eqb (c - 48) 0 (λ z. omega arith))

first_zero : (at : ℕ) (bs : List ℕ) → natural_from at (48 ∷ bs) ≡ Some (0, suc at)
unfolding natural_from digit_of
first_zero at bs = refl

read_natural : (at n : ℕ) (rest : List ℕ) → n < 2 ^ 64 → Stops rest → natural_from at (decimal n ++ rest) ≡ Some (n, at + length (decimal n))
read_natural at zero rest p h = rw (decimal_zero, first_zero at rest, add-one)
read_natural at (suc n) rest p h =
    let f : Head (suc n) = head (suc n) (omega arith) in
    rw (decimal_positive (suc n) (omega arith)) (
    ap (λ (t : List ℕ). natural_from at (t ++ rest)) f.is ∙
    (first_digit at f.first (f.others ++ rest) f.low f.high ∙
    (ap (λ (t : List ℕ). digits_from 0 at (t ++ rest)) (sym f.is) ∙
    (read_digits at (suc n) p rest ∙ stop (suc n) (at + length (digits (suc n))) rest h))))

-- no decimal begins with a minus
decimal_head : (n : ℕ) → (c : ℕ) × (cs : List ℕ) × (decimal n ≡ c ∷ cs) × (45 < c)
decimal_head zero = (48, [], decimal_zero, omega arith)
decimal_head (suc n) = let f : Head (suc n) = head (suc n) (omega arith) in (f.first, f.others, decimal_positive (suc n) (omega arith) ∙ f.is, omega (arith, f.low))

no_minus : (at n : ℕ) (rest : List ℕ) → signed_from at (decimal n ++ rest) ≡ plain (natural_from at (decimal n ++ rest))
unfolding signed_from
no_minus at n rest =
    let (c, cs, e, p) = decimal_head n in
    rw (e, ne_eqb c 45 (λ z. omega arith))

read_signed : (at : ℕ) (z : ℤ) (rest : List ℕ) → Small z → Stops rest → signed_from at (whole_text z ++ rest) ≡ number_of z (at + length (whole_text z))
unfolding signed_from negated whole_text
read_signed at (pos n) rest p h = no_minus at n rest ∙ ap plain (read_natural at n rest p h)
read_signed at (negsuc n) rest p h =
    let less : suc n - 1 ≡ n = omega arith in
    let moved : suc at + length (decimal (suc n)) ≡ at + suc (length (decimal (suc n))) = omega arith in
    rw (read_natural (suc at) (suc n) rest p h, ne_eqb (suc n) 0 (λ z. omega arith), less, moved)

ends_stop : (rest : List ℕ) → Ends rest → Stops rest
ends_stop [] h = tt
ends_stop (b ∷ bs) h = below_digits b (omega arith)

ends_here : (line : List ℕ) (e : ℕ) (rest : List ℕ) → e ≤ length line → drop e line ≡ rest → Ends rest → is_end line e ≡ true
unfolding is_end
ends_here line e [] p q h =
    let n : length line - e ≡ 0 = sym (length-drop e line) ∙ ap length q in
    rw (le-ltb e (length line) (omega arith))
ends_here line e (b ∷ bs) p q h =
    let n : length line - e ≡ length (b ∷ bs) = sym (length-drop e line) ∙ ap length q in
    let g : get_or line e 0 ≡ 44 = ap (λ (k : ℕ). get_or line k 0) (sym (add-zero e)) ∙ (sym (get_or-drop e line 0 0) ∙ (ap (λ (t : List ℕ). get_or t 0 0) q ∙ h)) in
    rw (lt-ltb e (length line) (omega arith), g)

ended : (line : List ℕ) (z : ℤ) (e : ℕ) → is_end line e ≡ true → ended_in line (number_of z e) ≡ number_of z e
unfolding ended_in
ended line z e h = rw h

pub text_there : (z : ℤ) → 0 < length (whole_text z)
unfolding whole_text
text_there (pos n) = rw (decimal_is n, length-append) (omega arith)
text_there (negsuc n) = omega arith

pub number_complete : (line : List ℕ) (at : ℕ) (z : ℤ) (rest : List ℕ) → drop at line ≡ whole_text z ++ rest → Small z → Ends rest → number_at line at ≡ number_of z (at + length (whole_text z))
unfolding number_at
number_complete line at z rest e p h =
    let w = within line at (whole_text z) rest e (text_there z) in
    ap (λ (t : List ℕ). ended_in line (signed_from at t)) e ∙
    (ap (ended_in line) (read_signed at z rest p (ends_stop rest h)) ∙
    ended line z (at + length (whole_text z)) (ends_here line (at + length (whole_text z)) rest (omega arith) (behind line at (whole_text z) rest e) h))
