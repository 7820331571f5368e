-- A copy within one slice, to a place behind: the words that are copied stand as they were.
use mathlib.Core.Path.{◌≡◌, sym, ◌∙◌}
use mathlib.Core.List.{List}
use Prim.Native.Nat.{ℕ, suc, ◌+◌, ◌≤◌, ◌<◌}
use native.Mathlib.Omega.{arith}
use lib.ListN.{length, get_or, take, drop, set, length-drop}
use lib.IntN.{ℤ, pos}
use lib.Seq.{paste, paste-suc, get_or-take, get_or-drop, length-take-le}
use Rattle.words.proofs.CopyLaw.{paste_below}

module _ (w₀ : List ℤ) (from to count : ℕ) (apart : from + count ≤ to) (fits : to + count ≤ length w₀) (i : ℕ) (h : i < count) where
  abbrev part : List ℤ
  part = take count (drop from w₀)

  part_long : length part ≡ count
  part_long = length-take-le count (drop from w₀) (omega (arith, length-drop from w₀))

  -- the word to copy is as it was
  pub word_stands : get_or (paste w₀ to part i) (from + i) (pos 0) ≡ get_or part i (pos 0)
  word_stands =
      paste_below w₀ to part i (omega arith) (omega (arith, part_long)) (from + i) (omega arith)
      ∙ sym (get_or-take count (drop from w₀) i (pos 0) h ∙ get_or-drop from w₀ i (pos 0))

  -- one word more
  pub copied_up : set (paste w₀ to part i) (to + i) (get_or (paste w₀ to part i) (from + i) (pos 0)) ≡ paste w₀ to part (suc i)
  copied_up = rw word_stands (paste-suc w₀ to part i (pos 0) (omega arith) (omega (arith, part_long)))
