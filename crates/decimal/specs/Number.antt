-- What the number reader promises: the number that stands at a place of a line.
use Rattle.std.specs.Prelude.{◌≡◌, ◌↔◌, List, [], ◌∷◌, ◌++◌, ℕ, suc, ◌+◌, ◌^◌, ◌<◌, ℤ, pos, negsuc, length, drop, Option, None, Some, option_map}
use Rattle.decimal.specs.declared.number.Reading.{Reading}
use Rattle.decimal.specs.declared.reader.NumberReader.{NumberReader}
use Rattle.decimal.specs.Decimal.{whole_text}
use Rattle.decimal.specs.Computed.Number.{number_at}

-- The routine's answer for a number and where it ends. It holds 64 bits beside the sign; a field's width is tested later.
abbrev pub number_of : ℤ → ℕ → Option Reading
number_of z end = Some (record { number = z; end = end })

abbrev pub Small : ℤ → Type 0
Small (pos n) = n < 2 ^ 64
Small (negsuc n) = suc n < 2 ^ 64

-- what follows a number: nothing, or a comma
abbrev pub Ends : List ℕ → Type 0
Ends [] = Unit {0}
Ends (b ∷ bs) = b ≡ 44

-- a number's text stands in a line from a place up to an end
pub record Standing (line : List ℕ) (at : ℕ) (z : ℤ) (end : ℕ) : Type 0 where
  pub rest : List ℕ
  pub text : drop at line ≡ whole_text z ++ rest
  pub parted : Ends rest
  pub ends : end ≡ at + length (whole_text z)
  pub small : Small z

-- The number there, exactly if one stands there.
pub record NumberContract (line : List ℕ) (at : ℕ) (r : Option Reading) : Type 0 where
  pub answer : r ≡ number_at line at
  pub reads : (z : ℤ) (end : ℕ) → (r ≡ number_of z end) ↔ Standing line at z end
  pub bad : (r ≡ None) ↔ ((z : ℤ) (end : ℕ) → Standing line at z end → ⊥)

-- Where a reader has come to with a number: behind the comma that ends it. The line's end counts as one, so that behind the last number it is one beyond
-- the line, and behind a last comma at the line's end, where no number stands. Without a number the place stays.
abbrev pub place_behind : ℕ → Option Reading → ℕ
place_behind at (Some r) = suc r.end
place_behind at None = at

-- "The number reader keeps the line it was lent and how far it has come": the number that it has come to, the same line, the place behind.
pub record NextContract (before : NumberReader) (number : Option ℤ) (after : NumberReader) : Type 0 where
  pub reading : Option Reading
  pub stands : NumberContract before.line.now before.at reading
  pub gives : number ≡ option_map (λ r. r.number) reading
  pub keeps : after.line ≡ before.line
  pub place : after.at ≡ place_behind before.at reading
