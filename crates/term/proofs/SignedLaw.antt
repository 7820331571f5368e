-- Words as the code sees them: stored as bits, and compared.
use mathlib.Core.Path.{◌≡◌, refl, sym, ◌∙◌, ap, subst⁻¹}
use mathlib.Core.Bool.{true, false, true≢false}
use lib.Dec.{T, leb→le}
use lib.IntN.{ℤ, pos, negsuc}
use lib.Signed.{lt_z, le_z}
use mir.Syntax.{w64}
use mir.Val.{SFits, of_z, to_z}
use mir.ValLaws.{to_z-of_z}
use borrow.Author.Tests.{le-ltb}

-- two words with the same bits are equal
pub same_bits : (a b : ℤ) → SFits w64 a → SFits w64 b → of_z w64 a ≡ of_z w64 b → a ≡ b
same_bits a b f g e = sym (to_z-of_z w64 a f) ∙ (ap (to_z w64) e ∙ to_z-of_z w64 b g)

-- of a word that is at most another, the other is not less
pub at_most : (a b : ℤ) → le_z a b ≡ true → lt_z b a ≡ false
at_most (pos a) (pos b) e = le-ltb b a (leb→le a b (subst⁻¹ T e tt))
at_most (pos a) (negsuc b) e = absurd (true≢false (sym e))
at_most (negsuc a) (pos b) e = refl
at_most (negsuc a) (negsuc b) e = le-ltb a b (leb→le b a (subst⁻¹ T e tt))
