-- Lists that stand at a place of a list.
use mathlib.Core.Path.{◌≡◌, sym, ap, ◌∙◌}
use mathlib.Core.List.{List, [], ◌∷◌, ◌++◌}
use Prim.Native.Nat.{ℕ, suc, ◌+◌, ◌-◌, ◌<◌}
use native.Mathlib.Omega.{arith}
use native.Mathlib.Numerals.{add-one}
use lib.ListN.{length, drop, length-append, length-drop}
use lib.Seq.{drop-drop, drop-append_seam}

module _ {A : Type 0} (xs : List A) (at : ℕ) (t rest : List A) (e : drop at xs ≡ t ++ rest) where
  pub behind : drop (at + length t) xs ≡ rest
  behind = sym (drop-drop (length t) at xs) ∙ (ap (drop (length t)) e ∙ drop-append_seam t rest)

  left_of_lem : length xs - at ≡ length t + length rest
  left_of_lem = sym (length-drop at xs) ∙ (ap length e ∙ length-append t rest)

  pub within : 0 < length t → at + length t + length rest ≡ length xs
  within p = let l = left_of_lem in omega arith

pub behind_head : {A : Type 0} (xs : List A) (at : ℕ) (b : A) (rest : List A) → drop at xs ≡ b ∷ rest → drop (suc at) xs ≡ rest
behind_head xs at b rest e = ap (λ (k : ℕ). drop k xs) (sym (add-one at)) ∙ behind xs at (b ∷ []) rest e
