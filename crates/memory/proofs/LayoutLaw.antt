-- The frames: what stands in one after a store, and what a store in one leaves in the others.
use mathlib.Core.Path.{◌≡◌, refl, ap, sym, ◌∙◌}
use mathlib.Core.List.{List, ◌++◌, append_assoc}
use Prim.Native.Nat.{ℕ, ◌+◌, ◌-◌, ◌≤◌, ◌<◌}
use native.Mathlib.Decide.{dec_lt}
use native.Mathlib.Nat.{mul-le-mul_right, suc-mul}
use native.Mathlib.Omega.{arith}
use lib.IntN.{ℤ, pos}
use lib.ListN.{length, get_or, take, drop, set, length-set, length-append, length-drop}
use lib.Seq.{paste, length-paste, get_or-set_other, get_or-set_same, get_or-take, get_or-drop, length-take-le, take_at, drop_at, take-set-le, drop-set-lt, drop-drop}
use Rattle.words.specs.Number.{nat_of}
use Rattle.words.proofs.PartLaw.{part_take, drop_later, front_same}
use Rattle.words.proofs.CopyLaw.{paste_start, paste_behind}
use Rattle.memory.specs.Layout.{base, frame_at, with_frame, length_of, position_of, words_of, OwnFits, advanced, entered, Enters, Forgets}

-- ---- frames whose words are the same
module _ (w w' : List ℤ) (long : length w' ≡ length w) where
  pub same_length : get_or w' (length w - 2) (pos 0) ≡ get_or w (length w - 2) (pos 0) → length_of w' ≡ length_of w
  unfolding length_of
  same_length e = ap (λ (n : ℕ). nat_of (get_or w' (n - 2) (pos 0))) long ∙ ap nat_of e

  pub same_words : length_of w' ≡ length_of w → ((j : ℕ) → j < length_of w → get_or w' j (pos 0) ≡ get_or w j (pos 0)) → words_of w' ≡ words_of w
  unfolding words_of
  same_words e f = ap (λ (m : ℕ). take m w') e ∙ front_same (length_of w) w w' long f

-- a frame with no configuration
pub empty_spare : (w : List ℤ) → 2 ≤ length w → length_of w ≡ 0 → OwnFits w
empty_spare w h e = omega arith

-- ---- another next position
module _ (w : List ℤ) (p : ℕ) (fits : 2 ≤ length w) where
  pub advanced_long : length (advanced w p) ≡ length w
  unfolding advanced
  advanced_long = length-set w (length w - 1) (pos p)

  pub advanced_other : (j : ℕ) → (j ≡ length w - 1 → ⊥) → get_or (advanced w p) j (pos 0) ≡ get_or w j (pos 0)
  unfolding advanced
  advanced_other j h = get_or-set_other w (length w - 1) j (pos p) (pos 0) h

  advanced_there : get_or (advanced w p) (length w - 1) (pos 0) ≡ pos p
  unfolding advanced
  advanced_there = get_or-set_same w (length w - 1) (pos p) (pos 0) (omega arith)

  pub advanced_position : position_of (advanced w p) ≡ p
  unfolding position_of
  advanced_position = ap (λ (n : ℕ). nat_of (get_or (advanced w p) (n - 1) (pos 0))) advanced_long ∙ ap nat_of advanced_there

  pub advanced_length : length_of (advanced w p) ≡ length_of w
  advanced_length = same_length w (advanced w p) advanced_long (advanced_other (length w - 2) (omega arith))

  pub advanced_words : OwnFits w → words_of (advanced w p) ≡ words_of w
  advanced_words h = same_words w (advanced w p) advanced_long advanced_length (λ j k. advanced_other j (omega arith))

-- ---- a frame anew
module _ (w c : List ℤ) (small : length c + 2 ≤ length w) where
  pasted : List ℤ
  pasted = paste w 0 c (length c)

  sized : List ℤ
  sized = set pasted (length w - 2) (pos (length c))

  pasted_long : length pasted ≡ length w
  unfolding pasted
  pasted_long = length-paste w 0 c (length c) (omega arith) (omega arith)

  sized_long : length sized ≡ length w
  unfolding sized
  sized_long = length-set pasted (length w - 2) (pos (length c)) ∙ pasted_long

  sized_word : get_or sized (length w - 2) (pos 0) ≡ pos (length c)
  unfolding sized
  sized_word = get_or-set_same pasted (length w - 2) (pos (length c)) (pos 0) (omega (arith, pasted_long))

  room_there : 2 ≤ length sized
  room_there = omega (arith, sized_long)

  entered_is : entered w c ≡ advanced sized 0
  unfolding entered sized pasted
  entered_is = refl

  pub entered_long : length (entered w c) ≡ length w
  entered_long = ap length entered_is ∙ advanced_long sized 0 room_there ∙ sized_long

  -- but for the last word, what is sized
  entered_sized : (j : ℕ) → (j ≡ length w - 1 → ⊥) → get_or (entered w c) j (pos 0) ≡ get_or sized j (pos 0)
  entered_sized j h = ap (λ (l : List ℤ). get_or l j (pos 0)) entered_is ∙ advanced_other sized 0 room_there j (λ e. h (e ∙ ap (λ (n : ℕ). n - 1) sized_long))

  entered_position : position_of (entered w c) ≡ 0
  entered_position = ap position_of entered_is ∙ advanced_position sized 0 room_there

  pub entered_length : length_of (entered w c) ≡ length c
  unfolding length_of
  entered_length =
      ap (λ (n : ℕ). nat_of (get_or (entered w c) (n - 2) (pos 0))) entered_long
      ∙ ap nat_of (entered_sized (length w - 2) (omega arith) ∙ sized_word)

  entered_front : take (length c) (entered w c) ≡ c
  unfolding entered sized pasted advanced
  entered_front =
      take-set-le (length c) sized (length sized - 1) (pos 0) (omega (arith, sized_long))
      ∙ take-set-le (length c) pasted (length w - 2) (pos (length c)) (omega arith)
      ∙ ap (take (length c)) (paste_start w c)
      ∙ take_at c (drop (length c) w) (length c) refl

  pub entered_words : words_of (entered w c) ≡ c
  unfolding words_of
  entered_words = ap (λ (m : ℕ). take m (entered w c)) entered_length ∙ entered_front

  -- the words behind the configuration
  pub entered_other : (j : ℕ) → length c ≤ j → j + 2 < length w → get_or (entered w c) j (pos 0) ≡ get_or w j (pos 0)
  unfolding sized pasted
  entered_other j h k =
      entered_sized j (omega arith)
      ∙ get_or-set_other pasted (length w - 2) j (pos (length c)) (pos 0) (omega arith)
      ∙ paste_behind w 0 c (length c) (omega arith) (omega arith) j (omega arith)

  pub enters : Enters w (entered w c) c
  enters = record { wide = entered_long; long = entered_length; words = entered_words; position = entered_position }

-- ---- a frame of the work area
-- it ends before a later one begins
pub frame_before : (room i j : ℕ) → i < j → base room i + (room + 2) ≤ base room j
frame_before room i j h = omega (arith, mul-le-mul_right (room + 2) h, suc-mul i (room + 2))

pub frame_long : (room : ℕ) (work : List ℤ) (i : ℕ) → base room i + (room + 2) ≤ length work → length (frame_at room work i) ≡ room + 2
frame_long room work i h = length-take-le (room + 2) (drop (base room i) work) (omega (arith, length-drop (base room i) work))

module _ (room : ℕ) (work : List ℤ) (i : ℕ) (frame : List ℤ) (fits : base room i + (room + 2) ≤ length work) (wide : length frame ≡ room + 2) where
  abbrev at : ℕ
  at = base room i

  abbrev rest : List ℤ
  rest = drop (at + (room + 2)) work

  front_long : length (take at work) ≡ at
  front_long = length-take-le at work (omega arith)

  both_long : length (take at work ++ frame) ≡ at + (room + 2)
  both_long = omega (arith, length-append (take at work) frame, front_long)

  whole : with_frame room work i frame ≡ (take at work ++ frame) ++ rest
  whole = sym (append_assoc (take at work) frame rest)

  pub with_long : length (with_frame room work i frame) ≡ length work
  with_long = ap length whole ∙ (let e = length-append (take at work ++ frame) rest in let f = length-drop (at + (room + 2)) work in let g = both_long in omega arith)

  with_below : take at (with_frame room work i frame) ≡ take at work
  with_below = take_at (take at work) (frame ++ rest) at front_long

  pub with_behind : (m : ℕ) → at + (room + 2) ≤ m → drop m (with_frame room work i frame) ≡ drop m work
  with_behind m h = drop_later (at + (room + 2)) m (with_frame room work i frame) work (ap (drop (at + (room + 2))) whole ∙ drop_at (take at work ++ frame) rest (at + (room + 2)) both_long) h

  pub with_same : frame_at room (with_frame room work i frame) i ≡ frame
  with_same = ap (take (room + 2)) (drop_at (take at work) (frame ++ rest) at front_long) ∙ take_at frame rest (room + 2) wide

  pub with_other : (j : ℕ) → (j ≡ i → ⊥) → frame_at room (with_frame room work i frame) j ≡ frame_at room work j
  with_other j n = side (dec_lt j i) (dec_lt i j)
    where
      side : Dec (j < i) → Dec (i < j) → frame_at room (with_frame room work i frame) j ≡ frame_at room work j
      side (yes h) k =
          let b = frame_before room j i h in
          sym (part_take (base room j) (room + 2) at (with_frame room work i frame) b)
          ∙ ap (λ (l : List ℤ). take (room + 2) (drop (base room j) l)) with_below
          ∙ part_take (base room j) (room + 2) at work b
      side (no h) (yes k) = ap (take (room + 2)) (with_behind (base room j) (frame_before room i j k))
      side (no h) (no k) = absurd (n (omega arith))

-- ---- frames that hold no configuration, one after the other
pub forgets_none : (room : ℕ) (work : List ℤ) → Forgets room 0 work work
forgets_none room work = record { wide = refl; behind = refl; empty = λ i h. absurd (let f : ⊥ = omega arith in f) }

module _ (room : ℕ) (work w : List ℤ) (i : ℕ) (fits : base room i + (room + 2) ≤ length work) (f : Forgets room i work w) where
  pub forgets_more : Forgets room (i + 1) work (set w (base room i + room) (pos 0))
  forgets_more =
      let b = frame_before room i (i + 1) (omega arith) in
      record {
        wide = length-set w (base room i + room) (pos 0) ∙ f.wide;
        behind = drop-set-lt (base room (i + 1)) w (base room i + room) (pos 0) (omega arith) ∙ drop_later (base room i) (base room (i + 1)) w work f.behind (omega arith);
        empty = λ k h. at k h (dec_lt k i);
      }
    where
      at : (k : ℕ) → k < i + 1 → Dec (k < i) → get_or (set w (base room i + room) (pos 0)) (base room k + room) (pos 0) ≡ pos 0
      at k h (yes l) = let b = frame_before room k i l in get_or-set_other w (base room i + room) (base room k + room) (pos 0) (pos 0) (omega arith) ∙ f.empty k l
      at k h (no l) =
          let e : i ≡ k = omega arith in
          ap (λ (x : ℕ). get_or (set w (base room i + room) (pos 0)) (base room x + room) (pos 0)) (sym e) ∙ get_or-set_same w (base room i + room) (pos 0) (pos 0) (omega (arith, f.wide))

-- none of them holds a configuration
pub forgets_all : (room m : ℕ) (work w : List ℤ) → Forgets room m work w → base room m ≤ length work → (i : ℕ) → i < m → length_of (frame_at room w i) ≡ 0
unfolding length_of
forgets_all room m work w f fits i h =
    let e : length (frame_at room w i) ≡ room + 2 = frame_long room w i (omega (arith, frame_before room i m h, f.wide)) in
    let n : room + 2 - 2 ≡ room = omega arith in
    ap (λ (k : ℕ). nat_of (get_or (frame_at room w i) (k - 2) (pos 0))) e
    ∙ ap (λ (k : ℕ). nat_of (get_or (frame_at room w i) k (pos 0))) n
    ∙ ap nat_of (get_or-take (room + 2) (drop (base room i) w) room (pos 0) (omega arith) ∙ get_or-drop (base room i) w room (pos 0) ∙ f.empty i h)

-- ---- a frame that is lent, by the places between which it lies
module _ (room : ℕ) (work : List ℤ) (i start end : ℕ) (from : start ≡ base room i) (to : end ≡ base room i + (room + 2)) where
  span : end - start ≡ room + 2
  span = omega arith

  pub lent_frame : take (end - start) (drop start work) ≡ frame_at room work i
  lent_frame = rw (span, from)

  pub lent_back : (frame : List ℤ) → take start work ++ (frame ++ drop (end - start) (drop start work)) ≡ with_frame room work i frame
  lent_back frame = rw (span, from) (ap (λ (l : List ℤ). take (base room i) work ++ (frame ++ l)) (drop-drop (room + 2) (base room i) work))
