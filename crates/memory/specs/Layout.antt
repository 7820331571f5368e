-- A FRAME IN THE WORK AREA (document 01: "(log length + 1) × (2N + 2) words"): `room` words for a configuration, then how many of them it has, then the next
-- position to try. `room` is 2N. Every other file goes by these names.
use Rattle.std.specs.Prelude.{◌≡◌, List, ◌++◌, ℕ, ◌+◌, ◌-◌, ◌*◌, ◌≤◌, ◌<◌, ℤ, pos, length, get_or, take, drop, set}
use Rattle.std.proofs.Math.Seq.{paste}
use Rattle.words.specs.Number.{nat_of}

-- the room of document 01's largest limit, 32,768 nodes
abbrev pub max_room : ℕ
max_room = 65536

-- where the frame at a depth begins, and its words; the work area with another frame there
abbrev pub base : ℕ → ℕ → ℕ
base room depth = depth * (room + 2)

abbrev pub frame_at : ℕ → List ℤ → ℕ → List ℤ
frame_at room work depth = take (room + 2) (drop (base room depth) work)

abbrev pub with_frame : ℕ → List ℤ → ℕ → List ℤ → List ℤ
with_frame room work depth frame = take (base room depth) work ++ (frame ++ drop (base room depth + (room + 2)) work)

-- what stands in a frame
unfoldable pub length_of : List ℤ → ℕ
length_of frame = nat_of (get_or frame (length frame - 2) (pos 0))

unfoldable pub position_of : List ℤ → ℕ
position_of frame = nat_of (get_or frame (length frame - 1) (pos 0))

unfoldable pub words_of : List ℤ → List ℤ
words_of frame = take (length_of frame) frame

-- a frame whose configuration may be looked at: it lies in the frame (why no type holds this: src/frame)
abbrev pub OwnFits : List ℤ → Type 0
OwnFits frame = length_of frame + 2 ≤ length frame

-- the frame with another next position; a frame anew, with a configuration and position 0
unfoldable pub advanced : List ℤ → ℕ → List ℤ
advanced frame position = set frame (length frame - 1) (pos position)

unfoldable pub entered : List ℤ → List ℤ → List ℤ
entered frame config = advanced (set (paste frame 0 config (length config)) (length frame - 2) (pos (length config))) 0

-- what it comes to
pub record Enters (frame frame' : List ℤ) (c : List ℤ) : Type 0 where
  pub wide : length frame' ≡ length frame
  pub long : length_of frame' ≡ length c
  pub words : words_of frame' ≡ c
  pub position : position_of frame' ≡ 0

-- the length of no configuration in each of the m frames
pub record Forgets (room m : ℕ) (work work' : List ℤ) : Type 0 where
  pub wide : length work' ≡ length work
  pub behind : drop (base room m) work' ≡ drop (base room m) work
  pub empty : (i : ℕ) → i < m → get_or work' (base room i + room) (pos 0) ≡ pos 0
