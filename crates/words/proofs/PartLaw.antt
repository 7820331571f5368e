-- Parts of lists of words: what lies below a place is kept if `take` of it is, what lies behind if `drop` is.
use mathlib.Core.Path.{◌≡◌, refl, ap, ap₂, sym, ◌∙◌, subst}
use mathlib.Core.List.{List, [], ◌∷◌}
use Prim.Native.Nat.{ℕ, zero, suc, ◌+◌, ◌-◌, ◌≤◌, ◌<◌}
use native.Mathlib.Omega.{arith}
use lib.IntN.{ℤ, pos}
use lib.ListN.{length, get_or, take, drop}
use lib.Seq.{get_or-take, get_or-drop, take-take, drop-drop}

pub part_take : (a n lo : ℕ) (w : List ℤ) → a + n ≤ lo → take n (drop a (take lo w)) ≡ take n (drop a w)
part_take zero n lo w h = take-take n lo w (omega arith)
part_take (suc a) n zero w h = absurd (let f : ⊥ = omega arith in f)
part_take (suc a) n (suc lo) [] h = refl
part_take (suc a) n (suc lo) (x ∷ w) h = part_take a n lo w (omega arith)

pub drop_later : (a m : ℕ) (x y : List ℤ) → drop a x ≡ drop a y → a ≤ m → drop m x ≡ drop m y
drop_later a m x y e h =
    let z : a + (m - a) ≡ m = omega arith in
    ap (λ (k : ℕ). drop k x) (sym z) ∙ sym (drop-drop (m - a) a x) ∙ ap (drop (m - a)) e ∙ drop-drop (m - a) a y ∙ ap (λ (k : ℕ). drop k y) z

-- words that are the same one by one
pub front_same : (n : ℕ) (w w' : List ℤ) → length w' ≡ length w → ((j : ℕ) → j < n → get_or w' j (pos 0) ≡ get_or w j (pos 0)) → take n w' ≡ take n w
front_same zero w w' e f = refl
front_same (suc n) [] [] e f = refl
front_same (suc n) [] (y ∷ w') e f = absurd (let g : ⊥ = omega arith in g)
front_same (suc n) (x ∷ w) [] e f = absurd (let g : ⊥ = omega arith in g)
front_same (suc n) (x ∷ w) (y ∷ w') e f = ap₂ (λ (z : ℤ) (l : List ℤ). z ∷ l) (f 0 (omega arith)) (front_same n w w' (omega arith) (λ j h. f (suc j) (omega arith)))

pub part_same : (a n : ℕ) (w w' : List ℤ) → length w' ≡ length w → ((j : ℕ) → a ≤ j → j < a + n → get_or w' j (pos 0) ≡ get_or w j (pos 0)) → take n (drop a w') ≡ take n (drop a w)
part_same zero n w w' e f = front_same n w w' e (λ j h. f j (omega arith) (omega arith))
part_same (suc a) n [] [] e f = refl
part_same (suc a) n [] (y ∷ w') e f = absurd (let g : ⊥ = omega arith in g)
part_same (suc a) n (x ∷ w) [] e f = absurd (let g : ⊥ = omega arith in g)
part_same (suc a) n (x ∷ w) (y ∷ w') e f = part_same a n w w' (omega arith) (λ j h k. f (suc j) (omega arith) (omega arith))

pub word_below : (w w' : List ℤ) (lo : ℕ) → take lo w' ≡ take lo w → (j : ℕ) → j < lo → get_or w' j (pos 0) ≡ get_or w j (pos 0)
word_below w w' lo same j h = sym (get_or-take lo w' j (pos 0) h) ∙ ap (λ (l : List ℤ). get_or l j (pos 0)) same ∙ get_or-take lo w j (pos 0) h

pub word_behind : (w w' : List ℤ) (m : ℕ) → drop m w' ≡ drop m w → (j : ℕ) → m ≤ j → get_or w' j (pos 0) ≡ get_or w j (pos 0)
word_behind w w' m same j h =
    let e : m + (j - m) ≡ j = omega arith in
    subst (λ (i : ℕ). get_or w' i (pos 0) ≡ get_or w i (pos 0)) e (sym (get_or-drop m w' (j - m) (pos 0)) ∙ ap (λ (l : List ℤ). get_or l (j - m) (pos 0)) same ∙ get_or-drop m w (j - m) (pos 0))
