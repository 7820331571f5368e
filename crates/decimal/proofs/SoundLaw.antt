-- The number reader is sound: what it reads stands at the place, and ends at a comma or at the line's end.
use mathlib.Core.Path.{◌≡◌, refl, sym, ap, ◌∙◌, subst}
use mathlib.Core.Bool.{Bool, true, false, cond}
use mathlib.Core.List.{List, [], ◌∷◌, ◌++◌, append-nil, append_assoc}
use Prim.Native.Nat.{ℕ, zero, suc, ◌+◌, ◌-◌, ◌*◌, ◌^◌, ◌≤◌, ◌<◌}
use native.Mathlib.Omega.{arith}
use native.Mathlib.Nat.{add-zero}
use lib.IntN.{ℤ, pos, negsuc}
use lib.Dec.{eqb, ltb}
use lib.ListN.{length, drop, get_or, length-drop}
use lib.Seq.{get_or-drop}
use borrow.Author.Tests.{ltb-true, lt-ltb, eqb-true, eqb-false}
use Rattle.std.specs.Prelude.{Option, None, Some}
use Rattle.decimal.specs.declared.number.Reading.{Reading}
use Rattle.decimal.specs.Decimal.{digits, decimal, whole_text}
use Rattle.decimal.specs.Number.{number_of, Small, Ends, Standing, NumberContract}
use Rattle.decimal.specs.Computed.Number.{digit_of, by_digit, digits_from, natural_from, plain, negated, signed_from, is_end, ended_in, number_at}
use Rattle.decimal.proofs.ListLaw.{behind, within}
use Rattle.decimal.proofs.DecimalLaw.{digits_zero, digits_more, decimal_positive, decimal_zero}
use Rattle.decimal.proofs.NumberLaw.{digit_byte, text_there, number_complete}

-- ---- sound: what is read stands there
record DigitsRead (n at : ℕ) (bs : List ℕ) (m e : ℕ) : Type 0 where
  pub read : List ℕ
  pub rest : List ℕ
  pub split : bs ≡ read ++ rest
  pub joined : digits n ++ read ≡ digits m
  pub end : e ≡ at + length read
  pub small : m < 2 ^ 64
  pub positive : 0 < m

abbrev Digits : ℕ → ℕ → List ℕ → Option (ℕ × ℕ) → Type 0
Digits n at bs None = Unit {0}
Digits n at bs (Some p) = DigitsRead n at bs p.0 p.1

none_read : (n at : ℕ) (bs : List ℕ) → 0 < n → n < 2 ^ 64 → Digits n at bs (Some (n, at))
none_read n at bs p q = record { read = []; rest = bs; split = refl; joined = append-nil (digits n); end = sym (add-zero at); small = q; positive = p }

one_read : (n at b d : ℕ) (bs : List ℕ) (x : Option (ℕ × ℕ)) → digit_of b ≡ Some d → 0 < n → Digits (n * 10 + d) (suc at) bs x → Digits n at (b ∷ bs) x
one_read n at b d bs None p q h = tt
one_read n at b d bs (Some x) p q h =
    record {
      read = b ∷ h.read;
      rest = h.rest;
      split = ap (λ (t : List ℕ). b ∷ t) h.split;
      joined = sym (append_assoc (digits n) (b ∷ []) h.read) ∙ (ap (λ (t : List ℕ). t ++ h.read) (joins) ∙ h.joined);
      end = h.end ∙ omega arith;
      small = h.small;
      positive = h.positive;
    }
  where
    is : (b ≡ 48 + d) × (d < 10)
    is = digit_byte b d p

    joins : digits n ++ (b ∷ []) ≡ digits (n * 10 + d)
    joins = ap (λ (c : ℕ). digits n ++ (c ∷ [])) is.0 ∙ sym (digits_more n d is.1 (omega arith))

digits_sound : (bs : List ℕ) (n at : ℕ) → 0 < n → n < 2 ^ 64 → Digits n at bs (digits_from n at bs)
unfolding digits_from
digits_sound [] n at p q = none_read n at [] p q
digits_sound (b ∷ bs) n at p q = by_byte (digit_of b) refl (λ d h. digits_sound bs (n * 10 + d) (suc at) (omega arith) h)
  where
    by_test : (d : ℕ) (t : Bool) → digit_of b ≡ Some d → ltb (n * 10 + d) (2 ^ 64) ≡ t → (n * 10 + d < 2 ^ 64 → Digits (n * 10 + d) (suc at) bs (digits_from (n * 10 + d) (suc at) bs))
        → Digits n at (b ∷ bs) (cond t (digits_from (n * 10 + d) (suc at) bs) None)
    by_test d true e f i = one_read n at b d bs (digits_from (n * 10 + d) (suc at) bs) e p (i (ltb-true (n * 10 + d) (2 ^ 64) f))
    by_test d false e f i = tt

    by_byte : (o : Option ℕ) → digit_of b ≡ o → ((d : ℕ) → n * 10 + d < 2 ^ 64 → Digits (n * 10 + d) (suc at) bs (digits_from (n * 10 + d) (suc at) bs))
        → Digits n at (b ∷ bs) (by_digit o (Some (n, at)) (λ d. cond (ltb (n * 10 + d) (2 ^ 64)) (digits_from (n * 10 + d) (suc at) bs) None))
    by_byte None e i = none_read n at (b ∷ bs) p q
    by_byte (Some d) e i = by_test d (ltb (n * 10 + d) (2 ^ 64)) e refl (i d)

record Read (at : ℕ) (bs : List ℕ) (z : ℤ) (e : ℕ) : Type 0 where
  pub rest : List ℕ
  pub split : bs ≡ whole_text z ++ rest
  pub end : e ≡ at + length (whole_text z)
  pub small : Small z

abbrev Unsigned : ℕ → List ℕ → Option (ℕ × ℕ) → Type 0
Unsigned at bs None = Unit {0}
Unsigned at bs (Some p) = Read at bs (pos p.0) p.1

abbrev Signed : ℕ → List ℕ → Option Reading → Type 0
Signed at bs None = Unit {0}
Signed at bs (Some r) = Read at bs r.number r.end

-- behind a first digit
begun : (at b d : ℕ) (bs : List ℕ) (x : Option (ℕ × ℕ)) → b ∷ [] ≡ digits d → Digits d (suc at) bs x → Unsigned at (b ∷ bs) x
unfolding whole_text
begun at b d bs None q h = tt
begun at b d bs (Some p) q h =
    let all : b ∷ h.read ≡ decimal p.0 = ap (λ (t : List ℕ). t ++ h.read) q ∙ (h.joined ∙ sym (decimal_positive p.0 h.positive)) in
    record {
      rest = h.rest;
      split = ap (λ (t : List ℕ). b ∷ t) h.split ∙ ap (λ (t : List ℕ). t ++ h.rest) all;
      end = h.end ∙ (rw (← all) (omega arith));
      small = h.small;
    }

one_digit : (b d : ℕ) → b ≡ 48 + d → d < 10 → 0 < d → b ∷ [] ≡ digits d
one_digit b d e p q =
    ap (λ (c : ℕ). c ∷ []) e ∙
    (ap (λ (t : List ℕ). t ++ ((48 + d) ∷ [])) (sym digits_zero) ∙
    (sym (digits_more 0 d p (omega arith)) ∙ ap digits (omega arith)))

natural_sound : (at : ℕ) (bs : List ℕ) → Unsigned at bs (natural_from at bs)
unfolding natural_from whole_text
natural_sound at [] = tt
natural_sound at (b ∷ bs) = by_byte (digit_of b) refl
  where
    by_test : (d : ℕ) (t : Bool) → digit_of b ≡ Some d → eqb d 0 ≡ t → Unsigned at (b ∷ bs) (cond t (Some (0, suc at)) (digits_from d (suc at) bs))
    by_test d true e f =
        let z : d ≡ 0 = eqb-true d 0 f in
        let b0 : b ≡ 48 = (digit_byte b d e).0 ∙ omega arith in
        record { rest = bs; split = rw (decimal_zero, b0); end = rw decimal_zero (omega arith); small = omega arith }
    by_test d false e f =
        let is = digit_byte b d e in
        let positive : 0 < d = omega (arith, eqb-false d 0 f) in
        begun at b d bs (digits_from d (suc at) bs) (one_digit b d is.0 is.1 positive) (digits_sound bs d (suc at) positive (omega (arith, is.1)))

    by_byte : (o : Option ℕ) → digit_of b ≡ o → Unsigned at (b ∷ bs) (by_digit o None (λ d. cond (eqb d 0) (Some (0, suc at)) (digits_from d (suc at) bs)))
    by_byte None e = tt
    by_byte (Some d) e = by_test d (eqb d 0) e refl

unsigned : (at : ℕ) (bs : List ℕ) (x : Option (ℕ × ℕ)) → Unsigned at bs x → Signed at bs (plain x)
unsigned at bs None h = tt
unsigned at bs (Some p) h = h

minus : (at b : ℕ) (bs : List ℕ) (x : Option (ℕ × ℕ)) → b ≡ 45 → Unsigned (suc at) bs x → Signed at (b ∷ bs) (negated x)
unfolding negated whole_text
minus at b bs None q h = tt
minus at b bs (Some p) q h = by_test p.0 (eqb p.0 0) refl h
  where
    by_test : (n : ℕ) (t : Bool) → eqb n 0 ≡ t → Read (suc at) bs (pos n) p.1 → Signed at (b ∷ bs) (cond t None (Some (record { number = negsuc (n - 1); end = p.1 })))
    by_test n true f h = tt
    by_test zero false f h = absurd (eqb-false 0 0 f refl)
    by_test (suc n) false f h =
        let less : suc n - 1 ≡ n = omega arith in
        rw less (record { rest = h.rest; split = rw (q, h.split); end = h.end ∙ omega arith; small = h.small })

signed_sound : (at : ℕ) (bs : List ℕ) → Signed at bs (signed_from at bs)
unfolding signed_from
signed_sound at [] = tt
signed_sound at (b ∷ bs) = by_test (eqb b 45) refl
  where
    by_test : (t : Bool) → eqb b 45 ≡ t → Signed at (b ∷ bs) (cond t (negated (natural_from (suc at) bs)) (plain (natural_from at (b ∷ bs))))
    by_test true e = minus at b bs (natural_from (suc at) bs) (eqb-true b 45 e) (natural_sound (suc at) bs)
    by_test false e = unsigned at (b ∷ bs) (natural_from at (b ∷ bs)) (natural_sound at (b ∷ bs))

abbrev pub Sound : List ℕ → ℕ → Option Reading → Type 0
Sound line at None = Unit {0}
Sound line at (Some r) = Standing line at r.number r.end

behind_ends : (line : List ℕ) (e : ℕ) (rest : List ℕ) → drop e line ≡ rest → is_end line e ≡ true → Ends rest
unfolding is_end
behind_ends line e [] q t = tt
behind_ends line e (b ∷ bs) q t =
    let n : length line - e ≡ length (b ∷ bs) = sym (length-drop e line) ∙ ap length q in
    let g : get_or line e 0 ≡ b = ap (λ (k : ℕ). get_or line k 0) (sym (add-zero e)) ∙ (sym (get_or-drop e line 0 0) ∙ ap (λ (t : List ℕ). get_or t 0 0) q) in
    let is : eqb (get_or line e 0) 44 ≡ true = rw (lt-ltb e (length line) (omega arith)) at t in
    sym g ∙ eqb-true (get_or line e 0) 44 is

found : (line : List ℕ) (at : ℕ) (z : ℤ) (e : ℕ) → is_end line e ≡ true → Read at (drop at line) z e → Standing line at z e
found line at z e t h =
    record {
      rest = h.rest;
      text = h.split;
      parted = behind_ends line e h.rest (ap (λ (k : ℕ). drop k line) h.end ∙ behind line at (whole_text z) h.rest h.split) t;
      ends = h.end;
      small = h.small;
    }

number_ended : (line : List ℕ) (at : ℕ) (x : Option Reading) → Signed at (drop at line) x → Sound line at (ended_in line x)
unfolding ended_in
number_ended line at None h = tt
number_ended line at (Some r) h = by_test (is_end line r.end) refl
  where
    by_test : (t : Bool) → is_end line r.end ≡ t → Sound line at (cond t (Some r) None)
    by_test true f = found line at r.number r.end f h
    by_test false f = tt

pub number_sound : (line : List ℕ) (at : ℕ) → Sound line at (number_at line at)
unfolding number_at
number_sound line at = number_ended line at (signed_from at (drop at line)) (signed_sound at (drop at line))

-- what stands at a place ends within the line
pub stands_inside : (line : List ℕ) (at : ℕ) (z : ℤ) (e : ℕ) → Standing line at z e → (at < e) × (e ≤ length line)
stands_inside line at z e h = let w = within line at (whole_text z) h.rest h.text (text_there z) in omega (arith, h.ends, text_there z)

-- ---- exact
sound_of : (line : List ℕ) (at : ℕ) (z : ℤ) (e : ℕ) → Sound line at (number_of z e) → Standing line at z e
sound_of line at z e h = h

never_bad : (z : ℤ) (e : ℕ) → number_of z e ≡ None → ⊥
never_bad z e q = let z : ◌≡◌ {A = ℕ} 0 1 = cc in omega arith

none_bad : (line : List ℕ) (at : ℕ) (x : Option Reading) → Sound line at x → ((z : ℤ) (e : ℕ) → Standing line at z e → ⊥) → x ≡ None
none_bad line at None h f = refl
none_bad line at (Some r) h f = absurd (f r.number r.end h)

stands_read : (line : List ℕ) (at : ℕ) (z : ℤ) (e : ℕ) → Standing line at z e → number_at line at ≡ number_of z e
stands_read line at z e h = number_complete line at z h.rest h.text h.small h.parted ∙ ap (number_of z) (sym h.ends)

pub number_contract : (line : List ℕ) (at : ℕ) → NumberContract line at (number_at line at)
number_contract line at =
    record {
      answer = refl;
      reads = λ z e. ((λ q. sound_of line at z e (subst (Sound line at) q (number_sound line at))), stands_read line at z e);
      bad = ((λ q z e h. never_bad z e (sym (stands_read line at z e h) ∙ q)), none_bad line at (number_at line at) (number_sound line at));
    }

pub number_is : (line : List ℕ) (at : ℕ) (r : Option Reading) → r ≡ ended_in line (signed_from at (drop at line)) → NumberContract line at r
unfolding number_at
number_is line at r e = subst (NumberContract line at) (sym e) (number_contract line at)

pub reading_inside : (line : List ℕ) (at : ℕ) (r : Reading) → NumberContract line at (Some r) → (at < r.end) × (r.end ≤ length line)
reading_inside line at r k = stands_inside line at r.number r.end ((k.reads r.number r.end).0 refl)
