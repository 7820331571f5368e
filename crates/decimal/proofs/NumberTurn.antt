-- What the number reader's routines compute at a byte of a line, and at its end.
use mathlib.Core.Path.{◌≡◌}
use mathlib.Core.Bool.{cond}
use mathlib.Core.List.{List}
use Prim.Native.Nat.{ℕ, ◌+◌, ◌*◌, ◌^◌, ◌≤◌, ◌<◌}
use native.Mathlib.Numerals.{add-one}
use lib.Dec.{eqb, ltb}
use lib.ListN.{length, drop, get_or, drop_of_length-le}
use lib.Seq.{drop-cons}
use Rattle.std.specs.Prelude.{None, Some}
use Rattle.decimal.specs.Computed.Number.{digit_of, by_digit, digits_from, natural_from, plain, negated, signed_from}

module _ (line : List ℕ) (at : ℕ) (p : length line ≤ at) where
  pub digits_end : (n : ℕ) → digits_from n at (drop at line) ≡ Some (n, at)
  unfolding digits_from
  digits_end n = rw (drop_of_length-le line p)

  pub natural_end : natural_from at (drop at line) ≡ None
  unfolding natural_from
  natural_end = rw (drop_of_length-le line p)

  pub signed_end : signed_from at (drop at line) ≡ None
  unfolding signed_from
  signed_end = rw (drop_of_length-le line p)

module _ (line : List ℕ) (at : ℕ) (p : at < length line) where
  pub digits_at : (n : ℕ) → digits_from n at (drop at line)
      ≡ by_digit (digit_of (get_or line at 0)) (Some (n, at)) (λ d. cond (ltb (n * 10 + d) (2 ^ 64)) (digits_from (n * 10 + d) (at + 1) (drop (at + 1) line)) None)
  unfolding digits_from
  digits_at n = rw (drop-cons line at 0 p, add-one)

  pub natural_at : natural_from at (drop at line)
      ≡ by_digit (digit_of (get_or line at 0)) None (λ d. cond (eqb d 0) (Some (0, at + 1)) (digits_from d (at + 1) (drop (at + 1) line)))
  unfolding natural_from
  natural_at = rw (drop-cons line at 0 p, add-one)

  pub signed_at : signed_from at (drop at line)
      ≡ cond (eqb (get_or line at 0) 45) (negated (natural_from (at + 1) (drop (at + 1) line))) (plain (natural_from at (drop at line)))
  unfolding signed_from
  signed_at = rw (drop-cons line at 0 p, add-one)
