-- A FRAME'S TABLE: configurations that were searched before, in the words of the frame that its own configuration leaves free.
-- The words before a frame's last two are cut into parts of one width: the first is the own configuration's, the next are slots, and the last two words hold the number of
-- slots and the width. A slot is a length, 0 where it is empty, and so many words. Which slot a configuration may stand in goes by its words; nothing here depends on it.
use Rattle.std.specs.Prelude.{◌≡◌, ◌⊎◌, List, ℕ, ◌+◌, ◌-◌, ◌*◌, ◌≤◌, ◌<◌, ℤ, pos, length, get_or, take, drop}
use Rattle.words.specs.Number.{nat_of}
use Rattle.memory.specs.Layout.{length_of, words_of}

-- the least frame that has a table at all, with 16 words for a configuration
abbrev pub least : ℕ
least = 18

unfoldable pub width_of : List ℤ → ℕ
width_of frame = nat_of (get_or frame (length frame - 3) (pos 0))

unfoldable pub slots_of : List ℤ → ℕ
slots_of frame = nat_of (get_or frame (length frame - 4) (pos 0))

unfoldable pub head_of : List ℤ → ℕ → ℕ
head_of frame at = nat_of (get_or frame at (pos 0))

-- where slot s begins, behind the frame's own place
abbrev pub slot_at : List ℤ → ℕ → ℕ
slot_at frame s = s * width_of frame

-- a configuration's words stand in a slot
pub record Filed (frame : List ℤ) (c : List ℤ) : Type 0 where
  pub wide : least ≤ length frame
  pub fits : (slots_of frame + 1) * width_of frame + 4 ≤ length frame
  pub slot : ℕ
  pub first : 0 < slot
  pub last : slot ≤ slots_of frame
  pub some : 0 < head_of frame (slot_at frame slot)
  pub short : head_of frame (slot_at frame slot) < width_of frame
  pub is : take (head_of frame (slot_at frame slot)) (drop (slot_at frame slot + 1) frame) ≡ c

-- and the table is there: the frame's own configuration, which is some, leaves it whole
pub record Entry (frame : List ℤ) (c : List ℤ) : Type 0 where
  pub some : 0 < length_of frame
  pub own : length_of frame < width_of frame
  pub filed : Filed frame c

-- WHAT A FRAME REMEMBERS: a configuration's words stand in its table, or are its own
abbrev pub Known : List ℤ → List ℤ → Type 0
Known frame c = Entry frame c ⊎ ((0 < length_of frame) × (c ≡ words_of frame))

-- no other is in the table of a frame that is entered anew
abbrev pub Keeps : List ℤ → List ℤ → Type 0
Keeps frame frame' = (c : List ℤ) → Entry frame' c → Known frame c

-- ---- what the routines promise
-- the frame's last two words have not changed
pub record Inside (frame frame' : List ℤ) : Type 0 where
  pub wide : length frame' ≡ length frame
  pub behind : drop (length frame - 2) frame' ≡ drop (length frame - 2) frame

-- a slot at place p of the frame, where the table takes the frame's own configuration and one of `words` words
pub record Slot (frame : List ℤ) (words p : ℕ) : Type 0 where
  pub wide : least ≤ length frame
  pub fits : (slots_of frame + 1) * width_of frame + 4 ≤ length frame
  pub slot : ℕ
  pub first : 0 < slot
  pub last : slot ≤ slots_of frame
  pub place : p ≡ slot * width_of frame
  pub some : 0 < length_of frame
  pub own : length_of frame < width_of frame
  pub narrow : words < width_of frame

-- a configuration stands in the slot at a place
abbrev pub InSlot : List ℤ → ℕ → List ℤ → Type 0
InSlot frame from c = (head_of frame from ≡ length c) × (take (length c) (drop (from + 1) frame) ≡ c)

-- the heads of `count` slots of a width are 0
pub record Heads (frame frame' : List ℤ) (width count : ℕ) : Type 0 where
  pub wide : length frame' ≡ length frame
  pub below : take width frame' ≡ take width frame
  pub behind : drop ((count + 1) * width) frame' ≡ drop ((count + 1) * width) frame
  pub empty : (s : ℕ) → 0 < s → s ≤ count → get_or frame' (s * width) (pos 0) ≡ pos 0

-- a table anew, or none: nothing is in it; where there is one the frame's own configuration stands
pub record Opens (frame frame' : List ℤ) : Type 0 where
  pub inside : Inside frame frame'
  pub none_filed : (c : List ℤ) → Filed frame' c → ⊥
  pub stands : 0 < width_of frame' → words_of frame' ≡ words_of frame

-- a table that takes a configuration of `words` words has nothing that it did not have
pub record Readies (frame frame' : List ℤ) (words : ℕ) : Type 0 where
  pub inside : Inside frame frame'
  pub files : (c : List ℤ) → words < width_of frame' → Filed frame' c → Entry frame c
  pub stands : 0 < width_of frame' → words_of frame' ≡ words_of frame

-- but the frame's own configuration, where there is one
pub record Puts (frame frame' : List ℤ) : Type 0 where
  pub inside : Inside frame frame'
  pub width : width_of frame' ≡ width_of frame
  pub files : (c : List ℤ) → Filed frame' c → Filed frame c ⊎ ((0 < length_of frame) × (c ≡ words_of frame))

-- both
pub record Keeping (frame frame' : List ℤ) (words : ℕ) : Type 0 where
  pub inside : Inside frame frame'
  pub files : (c : List ℤ) → words < width_of frame' → Filed frame' c → Known frame c
