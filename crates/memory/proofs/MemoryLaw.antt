-- A frame's table: where its slots lie, and that what stands in them stays where their words do.
use mathlib.Core.Path.{◌≡◌, refl, sym, ap, ◌∙◌, subst}
use mathlib.Core.List.{List}
use Prim.Native.Nat.{ℕ, suc, ◌+◌, ◌-◌, ◌*◌, ◌/◌, ◌≤◌, ◌<◌, ◌^◌}
use native.Mathlib.Nat.{mul-le-mul_right, suc-mul, one-mul, div-lt_iff_lt-mul}
use native.Mathlib.Decide.{dec_lt}
use native.Mathlib.Omega.{arith}
use lib.IntN.{ℤ, pos}
use lib.ListN.{length, get_or, take, drop, set, length-set}
use lib.Seq.{get_or-set_other, get_or-set_same, take-set-le, drop-set-lt}
use Rattle.words.specs.Number.{nat_of}
use Rattle.words.proofs.PartLaw.{part_same, drop_later}
use Rattle.memory.specs.Layout.{advanced, entered}
use Rattle.memory.specs.Memory.{least, width_of, slots_of, head_of, slot_at, Filed, Entry, Slot, InSlot, Heads}
use Rattle.memory.proofs.LayoutLaw.{advanced_long, advanced_other, advanced_length, entered_long, entered_length, entered_other}

-- ---- numbers
pub slot_number : (mix slots : ℕ) → mix < 2 ^ 32 → 0 < slots → mix * slots / 4294967296 < slots
slot_number mix slots h k = (div-lt_iff_lt-mul {k = 4294967296} (omega arith)).1 (omega (arith, mul-le-mul_right slots h, suc-mul mix slots))

pub slot_ends : (s slots width long : ℕ) → s ≤ slots → (slots + 1) * width + 4 ≤ long → s * width + width + 4 ≤ long
slot_ends s slots width long h k =
    let l : suc s ≤ slots + 1 = omega arith in
    omega (arith, mul-le-mul_right width l, suc-mul s width)

pub slot_begins : (s width : ℕ) → 0 < s → width ≤ s * width
slot_begins s width h =
    let l : 1 ≤ s = omega arith in
    omega (arith, mul-le-mul_right width l, one-mul width)

-- a slot ends before a later one begins
pub slot_before : (s r width : ℕ) → s < r → s * width + width ≤ r * width
slot_before s r width h = omega (arith, mul-le-mul_right width h, suc-mul s width)

-- ---- the table's numbers, by the words that hold them
module _ (w w' : List ℤ) (long : length w' ≡ length w) where
  pub same_width : get_or w' (length w - 3) (pos 0) ≡ get_or w (length w - 3) (pos 0) → width_of w' ≡ width_of w
  unfolding width_of
  same_width e = ap (λ (n : ℕ). nat_of (get_or w' (n - 3) (pos 0))) long ∙ ap nat_of e

  pub same_slots : get_or w' (length w - 4) (pos 0) ≡ get_or w (length w - 4) (pos 0) → slots_of w' ≡ slots_of w
  unfolding slots_of
  same_slots e = ap (λ (n : ℕ). nat_of (get_or w' (n - 4) (pos 0))) long ∙ ap nat_of e

pub same_head : (w w' : List ℤ) (j : ℕ) → get_or w' j (pos 0) ≡ get_or w j (pos 0) → head_of w' j ≡ head_of w j
unfolding head_of
same_head w w' j e = ap nat_of e

-- ---- by its numbers
pub filed : (w : List ℤ) (c : List ℤ) (width slots s n : ℕ) → width_of w ≡ width → slots_of w ≡ slots → head_of w (s * width) ≡ n → least ≤ length w → (slots + 1) * width + 4 ≤ length w → 0 < s → s ≤ slots → 0 < n → n < width → take n (drop (s * width + 1) w) ≡ c
    → Filed w c
filed w c width slots s n ew es eh a b f l k m e =
    record { wide = a; fits = rw (es, ew) b; slot = s; first = f; last = rw es l; some = rw (ew, eh) k; short = rw (ew, eh) m; is = rw (ew, eh) e }

-- ---- the words from place k of the frame on are the same, but for the last two
module _ (w w' : List ℤ) (k : ℕ) (long : length w' ≡ length w) (same : (j : ℕ) → k ≤ j → j + 2 < length w → get_or w' j (pos 0) ≡ get_or w j (pos 0)) (c : List ℤ) (less : k < width_of w') (f : Filed w' c) where
  abbrev width : ℕ
  width = width_of w'

  ends : f.slot * width + width + 4 ≤ length w
  ends = omega (arith, slot_ends f.slot (slots_of w') width (length w') f.last f.fits, long)

  begins : width ≤ f.slot * width
  begins = slot_begins f.slot width f.first

  width_same : width_of w ≡ width
  width_same = let e = ends in let l = less in sym (same_width w w' long (same (length w - 3) (omega arith) (omega arith)))

  slots_same : slots_of w ≡ slots_of w'
  slots_same = let e = ends in let l = less in sym (same_slots w w' long (same (length w - 4) (omega arith) (omega arith)))

  head_same : head_of w (f.slot * width) ≡ head_of w' (f.slot * width)
  head_same = let e = ends in let b = begins in let l = less in sym (same_head w w' (f.slot * width) (same (f.slot * width) (omega arith) (omega arith)))

  pub filed_same : Filed w c
  filed_same =
      let e = ends in
      let b = begins in
      let l = less in
      let h = f.short in
      filed w c width (slots_of w') f.slot (head_of w' (f.slot * width)) width_same slots_same head_same (omega (arith, f.wide, long)) (omega (arith, f.fits, long)) f.first f.last f.some h
      (sym (part_same (f.slot * width + 1) (head_of w' (f.slot * width)) w w' long (λ j x y. same j (omega arith) (omega arith))) ∙ f.is)

  pub width_kept : k < width_of w
  width_kept = omega (arith, width_same, less)

-- a frame in which nothing was written but the next position
module _ (w : List ℤ) (p : ℕ) (fits : 2 ≤ length w) where
  pub advanced_entry : (c : List ℤ) → Entry (advanced w p) c → Entry w c
  advanced_entry c e =
      let long = advanced_long w p fits in
      let el = advanced_length w p fits in
      let same : (j : ℕ) → 0 ≤ j → j + 2 < length w → get_or (advanced w p) j (pos 0) ≡ get_or w j (pos 0) = λ j h k. advanced_other w p fits j (omega arith) in
      let less : 0 < width_of (advanced w p) = omega (arith, e.own) in
      let ew = width_same w (advanced w p) 0 long same c less e.filed in
      record { some = omega (arith, e.some); own = omega (arith, e.own); filed = filed_same w (advanced w p) 0 long same c less e.filed }

-- a configuration that is entered leaves what is behind its width
module _ (w : List ℤ) (cs : List ℤ) (small : length cs + 2 ≤ length w) (c : List ℤ) (e : Entry (entered w cs) c) where
  less : length cs < width_of (entered w cs)
  less = omega (arith, e.own, entered_length w cs small)

  pub entry_filed : Filed w c
  entry_filed = filed_same w (entered w cs) (length cs) (entered_long w cs small) (entered_other w cs small) c less e.filed

  pub entry_wide : length cs < width_of w
  entry_wide = width_kept w (entered w cs) (length cs) (entered_long w cs small) (entered_other w cs small) c less e.filed

-- ---- a configuration that is found
pub found_entry : (w c : List ℤ) (p : ℕ) → 0 < length c → Slot w (length c) p → InSlot w p c → Entry w c
found_entry w c p h s k =
    let k' : InSlot w (slot_at w s.slot) c = subst (λ (q : ℕ). InSlot w q c) s.place k in
    record { some = s.some; own = s.own; filed = filed w c (width_of w) (slots_of w) s.slot (length c) refl refl k'.0 s.wide s.fits s.first s.last h s.narrow k'.1 }

-- where a slot lies
module _ (w : List ℤ) (words p : ℕ) (s : Slot w words p) where
  pub slot_room : p + width_of w + 4 ≤ length w
  slot_room = omega (arith, s.place, slot_ends s.slot (slots_of w) (width_of w) (length w) s.last s.fits)

  pub slot_above : width_of w ≤ p
  slot_above = omega (arith, s.place, slot_begins s.slot (width_of w) s.first)

-- ---- the heads of the slots, one after the other
pub heads_none : (w : List ℤ) (width : ℕ) → Heads w w width 0
heads_none w width = record { wide = refl; below = refl; behind = refl; empty = λ s h k. absurd (let f : ⊥ = omega arith in f) }

module _ (w w' : List ℤ) (width i : ℕ) (some : 0 < width) (fits : (i + 1 + 1) * width ≤ length w) (h : Heads w w' width i) where
  next : (i + 1) * width + width ≤ (i + 1 + 1) * width
  next = slot_before (i + 1) (i + 1 + 1) width (omega arith)

  pub heads_more : Heads w (set w' ((i + 1) * width) (pos 0)) width (i + 1)
  heads_more =
      let n = next in
      record {
        wide = length-set w' ((i + 1) * width) (pos 0) ∙ h.wide;
        below = take-set-le width w' ((i + 1) * width) (pos 0) (slot_begins (i + 1) width (omega arith)) ∙ h.below;
        behind = drop-set-lt ((i + 1 + 1) * width) w' ((i + 1) * width) (pos 0) (omega arith) ∙ drop_later ((i + 1) * width) ((i + 1 + 1) * width) w' w h.behind (omega arith);
        empty = λ s j k. at s j k (dec_lt s (i + 1));
      }
    where
      at : (s : ℕ) → 0 < s → s ≤ i + 1 → Dec (s < i + 1) → get_or (set w' ((i + 1) * width) (pos 0)) (s * width) (pos 0) ≡ pos 0
      at s j k (yes l) =
          let b = slot_before s (i + 1) width l in
          get_or-set_other w' ((i + 1) * width) (s * width) (pos 0) (pos 0) (omega arith) ∙ h.empty s j (omega arith)
      at s j k (no l) =
          let e : s ≡ i + 1 = omega arith in
          let n = next in
          ap (λ (x : ℕ). get_or (set w' ((i + 1) * width) (pos 0)) (x * width) (pos 0)) e ∙ get_or-set_same w' ((i + 1) * width) (pos 0) (pos 0) (omega (arith, h.wide))
