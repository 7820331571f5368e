-- The search's loop: what holds at its head.
use mathlib.Core.Path.{◌≡◌}
use mathlib.Core.Bool.{Bool, false}
use mathlib.Core.List.{List}
use Prim.Native.Nat.{ℕ, ◌<◌}
use lib.IntN.{ℤ}
use lib.ListN.{length}
use Rattle.replay.specs.Reading.{table_of}
use Rattle.replay.specs.Turns.{SoundFrames, state_of, MemoryOf, SlicesFit, Kept}

-- after some turns from (out₀, work₀): the search at depth d will say what it would have said at first
pub record Searching (ws : List ℤ) (rules room : ℕ) (log : List ℕ) (out₀ work₀ out work : List ℤ) (over : Bool) (d : ℕ) : Type 0 where
  pub fits : SlicesFit room log out work
  pub deep : d < length log
  pub sound : SoundFrames rules room (length log) work d
  pub memory : MemoryOf (table_of ws) room log work over d
  pub same : state_of (table_of ws) room log work₀ false 0 ≡ state_of (table_of ws) room log work over d
  pub kept : Kept room (length log) out₀ work₀ out work
