-- A value's words, by where it is.
use mathlib.Core.Path.{◌≡◌, refl}
use mathlib.Core.List.{List}
use native.Mathlib.Omega.{arith}
use lib.IntN.{ℤ}
use lib.ListN.{length, length-take, length-drop}
use Rattle.value.specs.Value.{value_words, part_words, Within, size_of, Ordered}
use Rattle.value.specs.declared.builtin.Root.{Root}
use Rattle.value.specs.declared.Value.{Value}
use Rattle.value.specs.declared.Value.TheVariants.{Table, Configuration, Computed}

module _ (table config : List ℤ) where
  -- the part holds the words of a value that is not computed
  pub part_is : (v : Value) → ((r : Root) → v ≡ Computed r → ⊥) → part_words table config v ≡ value_words table config v
  unfolding part_words value_words
  part_is (Table s) f = refl
  part_is (Configuration s) f = refl
  part_is (Computed r) f = absurd (f r refl)

  pub size_is : (v : Value) → Within table config v → length (value_words table config v) ≡ size_of v
  unfolding Within value_words size_of
  size_is (Table s) w = let h = w.1 in simp (length-take, length-drop) (omega arith)
  size_is (Configuration s) w = let h = w.1 in simp (length-take, length-drop) (omega arith)
  size_is (Computed r) w = refl

  pub within_ordered : (v : Value) → Within table config v → Ordered v
  unfolding Within Ordered
  within_ordered (Table s) w = w.0
  within_ordered (Configuration s) w = w.0
  within_ordered (Computed r) w = tt
