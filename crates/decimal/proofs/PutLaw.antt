-- Texts put one behind the other.
use mathlib.Core.Path.{◌≡◌, refl, sym, ap, ◌∙◌}
use mathlib.Core.List.{List, [], ◌∷◌, ◌++◌, map, append-nil, append_assoc}
use Prim.Native.Nat.{ℕ, ◌+◌, ◌≤◌, ◌<◌}
use native.Mathlib.Omega.{arith}
use native.Mathlib.Nat.{add-zero, zero-add}
use native.Mathlib.Numerals.{add-one}
use lib.ListN.{length, take, drop, get_or, length-append, take-append-drop}
use lib.Seq.{drop-drop, take-suc, take_at, drop_at, length-take-le}
use Rattle.minuska.specs.Slice.{write}
use Rattle.decimal.specs.Line.{continued}
use Rattle.decimal.specs.Computed.Put.{put, Wrote}

pub put_none : (old : List ℕ) (at : ℕ) → put old at [] ≡ old
unfolding put
put_none old at = rw add-zero (take-append-drop at old)

-- one text behind the other
pub put_then : (old : List ℕ) (at : ℕ) (t u : List ℕ) → at + length t ≤ length old → put (put old at t) (at + length t) u ≡ put old at (t ++ u)
unfolding put
put_then old at t u p =
    let l : length (take at old ++ t) ≡ at + length t = length-append (take at old) t ∙ ap (λ (k : ℕ). k + length t) (length-take-le at old (omega arith)) in
    let whole : take at old ++ (t ++ drop (at + length t) old) ≡ (take at old ++ t) ++ drop (at + length t) old = sym (append_assoc (take at old) t (drop (at + length t) old)) in
    let moved : at + length t + length u ≡ at + length (t ++ u) = rw length-append (omega arith) in
    let front : take (at + length t) (take at old ++ (t ++ drop (at + length t) old)) ≡ take at old ++ t = ap (take (at + length t)) whole ∙ take_at (take at old ++ t) (drop (at + length t) old) (at + length t) l in
    let back : drop (at + length t + length u) (take at old ++ (t ++ drop (at + length t) old)) ≡ drop (at + length (t ++ u)) old =
    ap (drop (at + length t + length u)) whole ∙
    (sym (drop-drop (length u) (at + length t) ((take at old ++ t) ++ drop (at + length t) old)) ∙
    (ap (drop (length u)) (drop_at (take at old ++ t) (drop (at + length t) old) (at + length t) l) ∙
    (drop-drop (length u) (at + length t) old ∙ ap (λ (k : ℕ). drop k old) moved))) in
    rw (front, back) (simp append_assoc)

-- ---- what a routine wrote
pub wrote_none : (old : List ℕ) (at : ℕ) → Wrote old at [] old at
wrote_none old at = record { bytes = sym (put_none old at); end = omega arith }

pub wrote_then : (old : List ℕ) (at : ℕ) (t mid : List ℕ) (m : ℕ) (u new : List ℕ) (r : ℕ) → at + length t ≤ length old → Wrote old at t mid m → Wrote mid m u new r → Wrote old at (t ++ u) new r
wrote_then old at t mid m u new r p v w =
    record {
      bytes = w.bytes ∙ (rw (v.bytes, v.end) (put_then old at t u p));
      end = w.end ∙ rw (v.end, length-append) (omega arith);
    }

-- at the start
pub wrote_start : (old t new : List ℕ) (r : ℕ) → Wrote old 0 t new r → (new ≡ write t old) × (r ≡ length t)
unfolding put
wrote_start old t new r w = (w.bytes ∙ rw zero-add, w.end ∙ omega arith)

-- ---- texts parted by commas
module _ {A : Type 0} (text : A → List ℕ) where
  pub continued_append : (xs ys : List A) → continued (map text (xs ++ ys)) ≡ continued (map text xs) ++ continued (map text ys)
  continued_append [] ys = refl
  continued_append (x ∷ xs) ys = ap (λ (l : List ℕ). 44 ∷ l) (ap (λ (l : List ℕ). text x ++ l) (continued_append xs ys) ∙ sym (append_assoc (text x) (continued (map text xs)) (continued (map text ys))))

  -- one more
  pub continued_more : (xs : List A) (i : ℕ) (d : A) → i < length xs → continued (map text (take (i + 1) xs)) ≡ continued (map text (take i xs)) ++ (44 ∷ text (get_or xs i d))
  continued_more xs i d p =
      ap (λ (l : List A). continued (map text l)) (ap (λ (k : ℕ). take k xs) (add-one i) ∙ take-suc xs i d p) ∙
      (continued_append (take i xs) (get_or xs i d ∷ []) ∙ ap (λ (l : List ℕ). continued (map text (take i xs)) ++ (44 ∷ l)) (append-nil (text (get_or xs i d))))
