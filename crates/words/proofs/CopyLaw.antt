-- A copy: what it leaves, and what stands there; zeros over the first words.
use mathlib.Core.Path.{◌≡◌, ap, ap₂, ◌∙◌, subst}
use mathlib.Core.List.{List, ◌++◌, append_assoc}
use Prim.Native.Nat.{ℕ, suc, ◌+◌, ◌≤◌, ◌<◌}
use native.Mathlib.Omega.{arith}
use lib.IntN.{ℤ, pos}
use lib.ListN.{length, get_or, set, take, drop, replicate, length-replicate}
use lib.Seq.{paste, paste-suc, length-take-le, take-length, take_at, drop_at, drop-paste}
use Rattle.minuska.specs.Slice.{write, write_zeros}
use Rattle.words.proofs.PartLaw.{word_below, word_behind}

-- to the start of a slice
pub paste_start : (to from : List ℤ) → paste to 0 from (length from) ≡ write from to
paste_start to from =
    let e : 0 + length from ≡ length from = omega arith in
    ap₂ (λ (a : List ℤ) (m : ℕ). a ++ drop m to) (take-length from) e

module _ (w : List ℤ) (at : ℕ) (s : List ℤ) (n : ℕ) (fits : at + n ≤ length w) (long : n ≤ length s) where
  paste_front : take at (paste w at s n) ≡ take at w
  paste_front =
      ap (take at) (append_assoc (take at w) (take n s) (drop (at + n) w)) ∙ take_at (take at w) (take n s ++ drop (at + n) w) at (length-take-le at w (omega arith))

  pub paste_below : (j : ℕ) → j < at → get_or (paste w at s n) j (pos 0) ≡ get_or w j (pos 0)
  paste_below j h = word_below w (paste w at s n) at paste_front j h

  pub paste_behind : (j : ℕ) → at + n ≤ j → get_or (paste w at s n) j (pos 0) ≡ get_or w j (pos 0)
  paste_behind j h = word_behind w (paste w at s n) (at + n) (drop-paste w at s n (omega arith) long) j h

  pub paste_there : take n (drop at (paste w at s n)) ≡ take n s
  paste_there =
      ap (λ (l : List ℤ). take n (drop at l)) (append_assoc (take at w) (take n s) (drop (at + n) w))
      ∙ ap (take n) (drop_at (take at w) (take n s ++ drop (at + n) w) at (length-take-le at w (omega arith)))
      ∙ take_at (take n s) (drop (at + n) w) n (length-take-le n s long)

-- zeros over the first n words; they hide what stood there
pub zeros_front : (n : ℕ) (old zs : List ℤ) → n ≤ length old → zs ≡ replicate (length (take n old)) (pos 0) → zs ++ drop n old ≡ write_zeros n old
zeros_front n old zs h e = rw (e, length-take-le n old h, length-replicate n (pos 0))

pub same_zeros : (n : ℕ) (old old' : List ℤ) → drop n old' ≡ drop n old → write_zeros n old' ≡ write_zeros n old
same_zeros n old old' e = rw (length-replicate n (pos 0), e)

-- one word more is copied to the start
pub copied_on : (to from : List ℤ) (i : ℕ) → i < length from → length from ≤ length to → set (paste to 0 from i) i (get_or from i (pos 0)) ≡ paste to 0 from (suc i)
copied_on to from i h g = subst (λ (k : ℕ). set (paste to 0 from i) k (get_or from i (pos 0)) ≡ paste to 0 from (suc i)) (let z : 0 + i ≡ i = omega arith in z) (paste-suc to 0 from i (pos 0) (omega arith) (omega arith))
