-- One turn of the loop over a rule's conditions.
use mathlib.Core.Path.{◌≡◌, ◌∙◌, ap}
use mathlib.Core.Bool.{Bool}
use mathlib.Core.Option.{Option, none, some}
use mathlib.Core.List.{List}
use Prim.Native.Nat.{ℕ, suc, ◌-◌, ◌<◌}
use native.Mathlib.Omega.{arith}
use lib.IntN.{ℤ}
use Rattle.minuska.specs.Basics.{◌>>=◌}
use Rattle.table.specs.Level.{Expression}
use Rattle.table.specs.Walk.{part_end}
use Rattle.table.specs.Rule.{conditions_end}

module _ (ws : List ℤ) (seen : List Bool) where
  module _ (i k : ℕ) (h : 0 < k) where
    one : conditions_end k ws seen i ≡ (part_end ws i Expression seen >>= λ e. part_end ws e Expression seen >>= λ e. conditions_end (k - 1) ws seen e)
    one = let e : k ≡ suc (k - 1) = omega arith in ap (λ (n : ℕ). conditions_end n ws seen i) e

    pub first_missed : part_end ws i Expression seen ≡ none → conditions_end k ws seen i ≡ none
    first_missed p = one ∙ ap (λ (o : Option ℕ). o >>= λ e. part_end ws e Expression seen >>= λ e. conditions_end (k - 1) ws seen e) p

    module _ (m : ℕ) (p : part_end ws i Expression seen ≡ some m) where
      pub second_missed : part_end ws m Expression seen ≡ none → conditions_end k ws seen i ≡ none
      second_missed q =
          one ∙ (ap (λ (o : Option ℕ). o >>= λ e. part_end ws e Expression seen >>= λ e. conditions_end (k - 1) ws seen e) p ∙
          ap (λ (o : Option ℕ). o >>= λ e. conditions_end (k - 1) ws seen e) q)

      pub both_found : (e : ℕ) → part_end ws m Expression seen ≡ some e → conditions_end k ws seen i ≡ conditions_end (k - 1) ws seen e
      both_found e q =
          one ∙ (ap (λ (o : Option ℕ). o >>= λ e. part_end ws e Expression seen >>= λ e. conditions_end (k - 1) ws seen e) p ∙
          ap (λ (o : Option ℕ). o >>= λ e. conditions_end (k - 1) ws seen e) q)
