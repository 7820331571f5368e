-- Signed words as the code reads them: their bits compared, a numeral, a natural number cast.
use mathlib.Core.Path.{◌≡◌, refl, sym, ap, ◌∙◌}
use mathlib.Core.Bool.{Bool, true, false}
use Prim.Native.Nat.{ℕ, suc, ◌-◌, ◌^◌, ◌<◌}
use native.Mathlib.Omega.{arith}
use lib.Dec.{eqb}
use lib.IntN.{ℤ, pos, negsuc, nat_abs}
use lib.Signed.{mag}
use borrow.Author.Tests.{eq-eqb, ne_eqb, eqb-true, eqb-false}
use mir.Syntax.{w64}
use mir.Val.{SFits, to_z, of_z}
use mir.Facts.{to_z_pos}
use Rattle.minuska.specs.Basics.{same_whole}

-- the bits of two numbers are equal where the numbers are
bits_eq : (a b : ℕ) → a < 2 ^ 63 → b < 2 ^ 63 → (t : Bool) → eqb a b ≡ t → eqb (2 ^ 64 - suc a) (2 ^ 64 - suc b) ≡ t
bits_eq a b f g true e = eq-eqb (2 ^ 64 - suc a) (2 ^ 64 - suc b) (rw (eqb-true a b e))
bits_eq a b f g false e = ne_eqb (2 ^ 64 - suc a) (2 ^ 64 - suc b) (λ h. eqb-false a b e (omega arith))

pub eq_bits : (a b : ℤ) → mag a < 2 ^ 63 → mag b < 2 ^ 63 → eqb (of_z w64 a) (of_z w64 b) ≡ same_whole a b
eq_bits (pos a) (pos b) f g = refl
eq_bits (pos a) (negsuc b) f g = ne_eqb a (2 ^ 64 - suc b) (λ h. omega arith)
eq_bits (negsuc a) (pos b) f g = ne_eqb (2 ^ 64 - suc a) b (λ h. omega arith)
eq_bits (negsuc a) (negsuc b) f g = bits_eq a b f g (eqb a b) refl

-- two words compared
pub word_is : (a b : ℤ) → SFits w64 a → SFits w64 b → of_z w64 a ≡ of_z w64 b → same_whole a b ≡ true
word_is a b f g e = sym (eq_bits a b f.sfits g.sfits) ∙ eq-eqb (of_z w64 a) (of_z w64 b) e

pub word_not : (a b : ℤ) → SFits w64 a → SFits w64 b → (of_z w64 a ≡ of_z w64 b → ⊥) → same_whole a b ≡ false
word_not a b f g e = sym (eq_bits a b f.sfits g.sfits) ∙ ne_eqb (of_z w64 a) (of_z w64 b) e

-- a signed number whose bits are a numeral
pub lit_pos : (z : ℤ) (k : ℕ) → mag z < 2 ^ 63 → k < 2 ^ 63 → of_z w64 z ≡ k → z ≡ pos k
lit_pos (pos n) k f g e = ap pos e
lit_pos (negsuc n) k f g e = absurd (omega arith)

-- a signed number that is the natural n, cast to an unsigned width
pub abs_back : (z : ℤ) (n : ℕ) → z ≡ pos n → n < 2 ^ 63 → nat_abs (to_z w64 (of_z w64 z)) ≡ n
abs_back z n e h = rw (e, to_z_pos w64 h)
