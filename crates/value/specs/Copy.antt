-- A slice after words were written from its start.
use Rattle.std.specs.Prelude.{◌≡◌, List, ℕ, ℤ, length}
use Rattle.minuska.specs.Slice.{write}

-- the words behind them keep; how many they are
pub record PutContract (old xs new : List ℤ) (r : ℕ) : Type 0 where
  pub leaves : new ≡ write xs old
  pub many : r ≡ length xs
