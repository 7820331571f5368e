-- One number, read at a place of a line.
use Rattle.std.specs.Prelude.{Bool, true, cond, List, [], ◌∷◌, ℕ, suc, ◌+◌, ◌-◌, ◌*◌, ◌^◌, pos, negsuc, eqb, ltb, length, drop, get_or, Option, None, Some}
use Rattle.decimal.specs.declared.number.Reading.{Reading}

-- a byte's digit, if it is one
unfoldable pub digit_of : ℕ → Option ℕ
digit_of b = cond (ltb b 48) None (cond (ltb 57 b) None (Some (b - 48)))

-- what is done with a digit, and without one
abbrev pub by_digit : {A : Type 0} → Option ℕ → A → (ℕ → A) → A
by_digit None stop go = stop
by_digit (Some d) stop go = go d

-- The digits at the start of the bytes that a place begins, behind a number that was read: the number and its end. None where the number leaves 64 bits.
unfoldable pub digits_from : ℕ → ℕ → List ℕ → Option (ℕ × ℕ)
digits_from n at [] = Some (n, at)
digits_from n at (b ∷ bs) = by_digit (digit_of b) (Some (n, at)) (λ d. cond (ltb (n * 10 + d) (2 ^ 64)) (digits_from (n * 10 + d) (suc at) bs) None)

-- a zero by itself, or digits that do not begin with one
unfoldable pub natural_from : ℕ → List ℕ → Option (ℕ × ℕ)
natural_from at [] = None
natural_from at (b ∷ bs) = by_digit (digit_of b) None (λ d. cond (eqb d 0) (Some (0, suc at)) (digits_from d (suc at) bs))

-- with no minus; behind a minus no zero
abbrev pub plain : Option (ℕ × ℕ) → Option Reading
plain None = None
plain (Some p) = Some (record { number = pos p.0; end = p.1 })

unfoldable pub negated : Option (ℕ × ℕ) → Option Reading
negated None = None
negated (Some p) = cond (eqb p.0 0) None (Some (record { number = negsuc (p.0 - 1); end = p.1 }))

unfoldable pub signed_from : ℕ → List ℕ → Option Reading
signed_from at [] = None
signed_from at (b ∷ bs) = cond (eqb b 45) (negated (natural_from (suc at) bs)) (plain (natural_from at (b ∷ bs)))

-- a number ends at the line's end or at a comma
unfoldable pub is_end : List ℕ → ℕ → Bool
is_end line e = cond (ltb e (length line)) (eqb (get_or line e 0) 44) true

unfoldable pub ended_in : List ℕ → Option Reading → Option Reading
ended_in line None = None
ended_in line (Some r) = cond (is_end line r.end) (Some r) None

unfoldable pub number_at : List ℕ → ℕ → Option Reading
number_at line at = ended_in line (signed_from at (drop at line))
