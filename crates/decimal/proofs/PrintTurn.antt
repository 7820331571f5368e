-- What is put: a text, a number, and numbers one behind the other.
use mathlib.Core.Path.{◌≡◌, refl, sym, ap, ◌∙◌}
use mathlib.Core.List.{List, [], ◌∷◌, ◌++◌, map}
use Prim.Native.Nat.{ℕ, suc, ◌+◌, ◌-◌, ◌/◌, ◌%◌, ◌^◌, ◌≤◌, ◌<◌}
use native.Mathlib.Omega.{arith}
use lib.IntN.{ℤ, pos, negsuc}
use lib.Signed.{mag}
use lib.ListN.{length, take, get_or}
use borrow.Rule.Slice.PartMut.{put_mid, Post-is}
use Rattle.std.specs.Fmt as F
use Rattle.std.proofs.lemmas.Fmt.{decimal_by_steps}
use Rattle.decimal.specs.Decimal.{decimal, whole_text}
use Rattle.decimal.specs.Line.{continued, parted}
use Rattle.decimal.specs.declared.print.Text.{Text}
use Rattle.decimal.specs.Computed.Put.{put, Wrote, Puts}
use Rattle.decimal.proofs.DecimalLaw.{digits_zero, decimal_is, decimal_positive}
use Rattle.decimal.proofs.PutLaw.{wrote_none, wrote_then, continued_more}

-- a text over a part of the output
pub wrote_part : (old bytes new : List ℕ) (at : ℕ) → new ≡ bytes → Wrote old at bytes (put_mid at (at + length bytes - at) old new) (at + length bytes)
unfolding put
wrote_part old bytes new at e = record { bytes = rw (e, Post-is at (at + length bytes) old (omega arith)); end = refl }

-- a number's text is the library's
one_digit : (n : ℕ) → n < 10 → (48 + n) ∷ [] ≡ decimal n
one_digit n p =
    let whole : n / 10 ≡ 0 = omega arith in
    let last : n % 10 ≡ n = omega arith in
    sym (decimal_is n ∙ rw (whole, last, digits_zero))

more_digits : (n : ℕ) (ds : List ℕ) → 10 ≤ n → ds ≡ decimal (n / 10) → ds ++ ((48 + n % 10) ∷ []) ≡ decimal n
more_digits n ds p e = rw e (ap (λ (l : List ℕ). l ++ ((48 + n % 10) ∷ [])) (decimal_positive (n / 10) (omega arith)) ∙ sym (decimal_is n))

pub decimal_same : (n : ℕ) → n < 2 ^ 64 → F.decimal n ≡ decimal n
decimal_same n p = decimal_by_steps (λ n ds. ds ≡ decimal n) one_digit more_digits n p

pub whole_same : (z : ℤ) → mag z < 2 ^ 63 → F.signed_decimal z ≡ whole_text z
unfolding whole_text
whole_same (pos n) p = decimal_same n (omega arith)
whole_same (negsuc n) p = ap (λ (l : List ℕ). 45 ∷ l) (decimal_same (suc n) (omega arith))

-- ---- one text behind the other
pub puts_none : (a : Text) → Puts a [] a
puts_none a = record { same_output = refl; same_length = refl; wrote = wrote_none a.output.now a.at }

pub puts_then : (a : Text) (t : List ℕ) (b : Text) (u : List ℕ) (c : Text) → Puts a t b → Puts b u c → b.at ≤ length b.output.now → Puts a (t ++ u) c
puts_then a t b u c p q r =
    record {
      same_output = q.same_output ∙ p.same_output;
      same_length = q.same_length ∙ p.same_length;
      wrote = wrote_then a.output.now a.at t b.output.now b.at u c.output.now c.at (omega (arith, p.same_length, p.wrote.end)) p.wrote q.wrote;
    }

-- one number more, behind a comma
pub puts_more : {A : Type 0} (f : A → List ℕ) (xs : List A) (i : ℕ) (x : A) (a b c e : Text) → Puts a (continued (map f (take i xs))) b → Puts b (44 ∷ []) c → Puts c (f x) e
    → x ≡ get_or xs i x → i < length xs → c.at ≤ length c.output.now → Puts a (continued (map f (take (i + 1) xs))) e
puts_more f xs i x a b c e p q r h l m =
    let comma : Puts b (44 ∷ f x) e = puts_then b (44 ∷ []) c (f x) e q r m in
    let all : Puts a (continued (map f (take i xs)) ++ (44 ∷ f x)) e = puts_then a (continued (map f (take i xs))) b (44 ∷ f x) e p comma (omega (arith, q.same_length, q.wrote.end)) in
    rw (continued_more f xs i x l, ← h) all

pub puts_nothing : {A : Type 0} (f : A → List ℕ) (xs : List A) (a : Text) → length xs ≡ 0 → Puts a (parted (map f xs)) a
puts_nothing f [] a e = puts_none a
puts_nothing f (x ∷ xs) a e = absurd (omega arith)
