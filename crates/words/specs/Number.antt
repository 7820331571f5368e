-- The number that a word holds.
use Rattle.std.specs.Prelude.{ℕ, ℤ, pos, negsuc}

abbrev pub nat_of : ℤ → ℕ
nat_of (pos n) = n
nat_of (negsuc n) = 0
