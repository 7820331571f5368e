-- The words of every rule's obstacle, one rule after the other: the turns of `put_all`.
use mathlib.Core.Path.{◌≡◌, refl, sym, ◌∙◌, ap, ap₂}
use mathlib.Core.Option.{some}
use mathlib.Core.List.{List, [], ◌∷◌, ◌++◌, append_assoc}
use Prim.Native.Nat.{ℕ, suc, ◌+◌, ◌*◌, ◌≤◌, ◌<◌}
use native.Mathlib.Omega.{arith}
use lib.IntN.{ℤ, pos}
use lib.ListN.{length, take, drop, get_or, get_elem?, set, length-append}
use lib.Seq.{drop-cons, set-append_seam}
use Rattle.std.proofs.lemmas.List.{take_more, length-take-le}
use Rattle.minuska.specs.Obstacle.{Reason, left_differs, condition_fails}
use Rattle.minuska.specs.Slice.{write, reason_words}
use Rattle.step.specs.declared.rule.Obstacle.{Obstacle}
use Rattle.step.specs.declared.rule.Obstacle.TheVariants.{Left, Condition}
use Rattle.step.specs.Verdict.{obstacle_of}
use Rattle.step.specs.Reasons.{obstacle_words}

-- the obstacles of some reasons
abbrev pub obstacles_of : List Reason → List Obstacle
obstacles_of [] = []
obstacles_of (o ∷ os) = obstacle_of o ∷ obstacles_of os

-- a list that has each reason's obstacle in its place is theirs
pub obstacles_are : (xs : List Obstacle) (os : List Reason) → length xs ≡ length os → ((n : ℕ) (o : Reason) → get_elem? os n ≡ some o → get_or xs n (Left 0) ≡ obstacle_of o) → xs ≡ obstacles_of os
obstacles_are [] [] e f = refl
obstacles_are [] (o ∷ os) e f = absurd (let z : ⊥ = omega arith in z)
obstacles_are (x ∷ xs) [] e f = absurd (let z : ⊥ = omega arith in z)
obstacles_are (x ∷ xs) (o ∷ os) e f = ap₂ (λ (y : Obstacle) (ys : List Obstacle). y ∷ ys) (f 0 o refl) (obstacles_are xs os (omega arith) (λ n p q. f (suc n) p q))

-- their words are the reasons'
pub words_of : (os : List Reason) → obstacle_words (obstacles_of os) ≡ reason_words os
words_of [] = refl
words_of (left_differs k ∷ os) = ap (λ (ws : List ℤ). pos 0 ∷ pos k ∷ ws) (words_of os)
words_of (condition_fails k ∷ os) = ap (λ (ws : List ℤ). pos 1 ∷ pos k ∷ ws) (words_of os)

-- the two words of an obstacle
abbrev pub kind : Obstacle → ℤ
kind (Left k) = pos 0
kind (Condition k) = pos 1

abbrev pub number : Obstacle → ℤ
number (Left k) = pos k
number (Condition k) = pos k

-- they are behind those of the obstacles before it
words_more : (os : List Obstacle) (o : Obstacle) → obstacle_words (os ++ o ∷ []) ≡ (obstacle_words os ++ kind o ∷ []) ++ number o ∷ []
words_more [] (Left k) = refl
words_more [] (Condition k) = refl
words_more (Left j ∷ os) o = ap (λ (ws : List ℤ). pos 0 ∷ pos j ∷ ws) (words_more os o)
words_more (Condition j ∷ os) o = ap (λ (ws : List ℤ). pos 1 ∷ pos j ∷ ws) (words_more os o)

words_length : (os : List Obstacle) → length (obstacle_words os) ≡ 2 * length os
words_length [] = refl
words_length (Left k ∷ os) = let h = words_length os in omega arith
words_length (Condition k ∷ os) = let h = words_length os in omega arith

-- a word more is written
write_more : (xs list : List ℤ) (i : ℕ) (a : ℤ) → i ≡ length xs → i < length list → set (write xs list) i a ≡ write (xs ++ a ∷ []) list
write_more xs list i a e h =
    let n : suc (length xs) ≡ length (xs ++ a ∷ []) = omega (arith, length-append xs (a ∷ [])) in
    ap (λ (j : ℕ). set (write xs list) j a) e ∙
    (ap (λ (ys : List ℤ). set (xs ++ ys) (length xs) a) (drop-cons list (length xs) (pos 0) (omega arith)) ∙
    (set-append_seam xs (get_or list (length xs) (pos 0)) (drop (suc (length xs)) list) a ∙
    (sym (append_assoc xs (a ∷ []) (drop (suc (length xs)) list)) ∙ ap (λ (j : ℕ). (xs ++ a ∷ []) ++ drop j list) n)))

-- the words of the first n obstacles are written
pub record Putting (os : List Obstacle) (old list : List ℤ) (n : ℕ) : Type 0 where
  pub is : list ≡ write (obstacle_words (take n os)) old

pub putting_on : {os : List Obstacle} {old list : List ℤ} {n : ℕ} → Putting os old list n → n < length os → 2 * length os ≤ length old → (d o : Obstacle) → o ≡ get_or os n d → (w : ℤ) → w ≡ number o → {k : ℤ} → k ≡ kind o → Putting os old (set (set list (2 * n) k) (2 * n + 1) w) (n + 1)
putting_on {os} {old} {list} {n} p below room d o here w same {k} first =
    let xs = obstacle_words (take n os) in
    let l : length (take n os) ≡ n = length-take-le n os (omega arith) in
    let a : 2 * n ≡ length xs = omega (arith, words_length (take n os)) in
    let b : 2 * n + 1 ≡ length (xs ++ kind o ∷ []) = omega (arith, length-append xs (kind o ∷ [])) in
    record {
      is =
          ap (λ (ys : List ℤ). set (set ys (2 * n) k) (2 * n + 1) w) p.is ∙
          (ap₂ (λ (x y : ℤ). set (set (write xs old) (2 * n) x) (2 * n + 1) y) first same ∙
          (ap (λ (ys : List ℤ). set ys (2 * n + 1) (number o)) (write_more xs old (2 * n) (kind o) a (omega arith)) ∙
          (write_more (xs ++ kind o ∷ []) old (2 * n + 1) (number o) b (omega arith) ∙
          (ap (λ (ys : List ℤ). write ys old) (sym (words_more (take n os) o)) ∙
          ap (λ (ys : List Obstacle). write (obstacle_words ys) old) (ap (λ (q : Obstacle). take n os ++ q ∷ []) here ∙ sym (take_more os n d below))))));
    }
