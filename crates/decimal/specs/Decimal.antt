-- Numbers as text (document 01, "The replay desk"). A text is its bytes.
use Rattle.std.specs.Prelude.{List, [], ◌∷◌, ◌++◌, ℕ, zero, suc, ◌+◌, ◌/◌, ◌%◌, ℤ, pos, negsuc}
use Prim.Native.Char.{code}
use Prim.Native.String as S

-- the bytes of a text in ASCII
abbrev pub ascii : S.String → List ℕ
ascii S.[] = []
ascii (S.◌∷◌ c s) = code c ∷ ascii s

-- The digits of a number, the most significant first, none for 0. `digits_within` has a first argument that bounds the recursion.
abbrev pub digits_within : ℕ → ℕ → List ℕ
digits_within zero n = []
digits_within (suc f) zero = []
digits_within (suc f) (suc m) = digits_within f (suc m / 10) ++ ((48 + suc m % 10) ∷ [])

unfoldable pub digits : ℕ → List ℕ
digits n = digits_within n n

-- "decimal numbers .. , no leading zeros": the last digit, and before it the digits of what is left
unfoldable pub decimal : ℕ → List ℕ
decimal n = digits (n / 10) ++ ((48 + n % 10) ∷ [])

-- "a minus only before a nonzero number"
unfoldable pub whole_text : ℤ → List ℕ
whole_text (pos n) = decimal n
whole_text (negsuc n) = ascii "-" ++ decimal (suc n)
