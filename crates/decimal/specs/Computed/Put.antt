-- A text put into bytes.
use Rattle.std.specs.Prelude.{◌≡◌, List, ◌++◌, ℕ, ◌+◌, ◌≤◌, length, take, drop}
use Rattle.decimal.specs.declared.print.Text.{Text}

-- at a place, the bytes before and behind it kept
unfoldable pub put : List ℕ → ℕ → List ℕ → List ℕ
put old at text = take at old ++ (text ++ drop (at + length text) old)

-- a text stands there, and what was told is the place behind it
pub record Wrote (old : List ℕ) (at : ℕ) (text new : List ℕ) (r : ℕ) : Type 0 where
  pub bytes : new ≡ put old at text
  pub end : r ≡ at + length text

-- the output has room for so many bytes more
abbrev pub HasRoom : Text → ℕ → Type 0
HasRoom text n = text.at + n ≤ length text.output.now

-- bytes were put behind what stood there, into the same output
pub record Puts (before : Text) (bytes : List ℕ) (after : Text) : Type 0 where
  pub same_output : after.output.ghost_name ≡ before.output.ghost_name
  pub same_length : length after.output.now ≡ length before.output.now
  pub wrote : Wrote before.output.now before.at bytes after.output.now after.at
