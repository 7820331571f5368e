-- Words written from the start of a slice, and more from the start of what is behind them.
use mathlib.Core.Path.{◌≡◌, sym, ◌∙◌, ap, ap₂}
use mathlib.Core.List.{List, ◌++◌, append-nil, append_assoc}
use Prim.Native.Nat.{ℕ, ◌+◌, ◌-◌}
use native.Mathlib.Omega.{arith}
use lib.IntN.{ℤ}
use lib.ListN.{length, take, drop, length-append, length-drop}
use lib.Seq.{take_all, drop-length, take-append_seam, drop-append_seam, drop-drop}
use Rattle.value.specs.Copy.{PutContract}

-- what is lent behind the first r words, and the slice when that is back
module _ (new : List ℤ) (r : ℕ) where
  abbrev pub behind : List ℤ
  behind = take (length new - r) (drop r new)

  abbrev pub put_back : List ℤ → List ℤ
  put_back newer = take r new ++ (newer ++ drop (length new - r) (drop r new))

module _ {old xs new : List ℤ} {r : ℕ} (p : PutContract old xs new r) where
  front : take r new ≡ xs
  front = ap₂ (λ (n : ℕ) (l : List ℤ). take n l) p.many p.leaves ∙ take-append_seam xs (drop (length xs) old)

  behind_is : behind new r ≡ drop (length xs) old
  behind_is =
      take_all (length new - r) (drop r new) (let a = length-drop r new in omega arith)
      ∙ ap₂ (λ (n : ℕ) (l : List ℤ). drop n l) p.many p.leaves ∙ drop-append_seam xs (drop (length xs) old)

  pub put_room : length (behind new r) ≡ length old - length xs
  put_room = ap length behind_is ∙ length-drop (length xs) old

  module _ {ys newer : List ℤ} {s : ℕ} (q : PutContract (behind new r) ys newer s) where
    second : newer ++ drop (length new - r) (drop r new) ≡ ys ++ drop (length xs + length ys) old
    second =
        ap₂ (λ (a b : List ℤ). a ++ b) (q.leaves ∙ ap (λ (l : List ℤ). ys ++ drop (length ys) l) behind_is)
        (ap (λ (n : ℕ). drop n (drop r new)) (sym (length-drop r new)) ∙ drop-length (drop r new))
        ∙ append-nil (ys ++ drop (length ys) (drop (length xs) old)) ∙ ap (λ (l : List ℤ). ys ++ l) (drop-drop (length ys) (length xs) old)

    pub put_then : PutContract old (xs ++ ys) (put_back new r newer) (r + s)
    put_then = record {
      leaves =
          ap₂ (λ (a b : List ℤ). a ++ b) front second
          ∙ sym (append_assoc xs ys (drop (length xs + length ys) old)) ∙ ap (λ (n : ℕ). (xs ++ ys) ++ drop n old) (sym (length-append xs ys));
      many = ap₂ (λ (a b : ℕ). a + b) p.many q.many ∙ sym (length-append xs ys);
    }
