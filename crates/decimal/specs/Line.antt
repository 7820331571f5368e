-- A line of numbers (document 01, "The replay desk"): how they are parted, and which fit their field.
use Rattle.std.specs.Prelude.{Bool, List, [], ◌∷◌, ◌++◌, ℕ, ◌^◌, ℤ, pos, negsuc, ltb}
use Rattle.decimal.specs.Decimal.{ascii}

-- "numbers parted by commas, no quoting, no blanks": each but the first behind a comma
abbrev pub continued : List (List ℕ) → List ℕ
continued [] = []
continued (t ∷ ts) = ascii "," ++ (t ++ continued ts)

abbrev pub parted : List (List ℕ) → List ℕ
parted [] = []
parted (t ∷ ts) = t ++ continued ts

-- "each fits its field's width (word 64 signed, action 16 unsigned, ceiling 64 unsigned)"
abbrev pub is_word : ℤ → Bool
is_word (pos n) = ltb n (2 ^ 63)
is_word (negsuc n) = ltb n (2 ^ 63)

abbrev pub is_action : ℕ → Bool
is_action n = ltb n (2 ^ 16)

abbrev pub is_limit : ℕ → Bool
is_limit n = ltb n (2 ^ 64)
