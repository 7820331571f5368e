-- What stands where in a slice of words: a part of what stands there, a word of it; at most one term stands at a place.
use mathlib.Core.Path.{◌≡◌, sym, ◌∙◌, ap}
use mathlib.Core.Option.{some-injective}
use mathlib.Core.List.{List, ◌∷◌, ◌++◌, append_assoc}
use Prim.Native.Nat.{ℕ, suc, ◌+◌, ◌<◌, ◌≤◌}
use native.Mathlib.Nat.{add-zero}
use native.Mathlib.Omega.{arith}
use lib.Dec.{T}
use lib.IntN.{ℤ, pos}
use lib.ListN.{length, take, drop, get_or, length-append, length-take, length-drop, take-append-drop}
use lib.Seq.{take-length, take-append_seam, drop-append_seam, drop-drop, get_or-drop, get_or-take}
use Rattle.minuska.specs.Term.{Term, single}
use Rattle.minuska.specs.Word.{ok, encode}
use Rattle.minuska.specs.Bridge.Place.{Stands}
use Rattle.minuska.proofs.SpanLaw.{read_term_iff}

-- all the words stand at the front
pub stands_whole : (ws : List ℤ) → Stands ws 0 ws
stands_whole ws = record { words = take-length ws; within = omega arith }

-- a word of what stands there
pub stands_word : {ws : List ℤ} {at : ℕ} {xs : List ℤ} → Stands ws at xs → (k : ℕ) (d : ℤ) → k < length xs → get_or ws (at + k) d ≡ get_or xs k d
stands_word {ws} {at} {xs} s k d h =
    sym (get_or-drop at ws k d) ∙ (sym (get_or-take (length xs) (drop at ws) k d h) ∙ ap (λ (l : List ℤ). get_or l k d) s.words)

pub stands_head : {ws : List ℤ} {at : ℕ} {x : ℤ} {xs : List ℤ} → Stands ws at (x ∷ xs) → (d : ℤ) → get_or ws at d ≡ x
stands_head {ws} {at} s d = ap (λ (n : ℕ). get_or ws n d) (sym (add-zero at)) ∙ stands_word s 0 d (omega arith)

-- what stands there, and what follows it
pub stands_then : {ws : List ℤ} {at : ℕ} {xs : List ℤ} → Stands ws at xs → drop at ws ≡ xs ++ drop (at + length xs) ws
stands_then {ws} {at} {xs} s =
    sym (take-append-drop (length xs) (drop at ws)) ∙
    (ap (λ (l : List ℤ). l ++ drop (length xs) (drop at ws)) s.words ∙ ap (λ (l : List ℤ). xs ++ l) (drop-drop (length xs) at ws))

pub stands_of : {ws : List ℤ} {at : ℕ} (xs rest : List ℤ) → drop at ws ≡ xs ++ rest → at ≤ length ws → Stands ws at xs
stands_of {ws} {at} xs rest e h =
    let p : length ws ≡ at + (length xs + length rest) = omega (arith, length-drop at ws, ap length e, length-append xs rest) in
    record { words = ap (take (length xs)) e ∙ take-append_seam xs rest; within = omega arith }

-- the first part of what stands there, and the second
pub stands_first : {ws : List ℤ} {at : ℕ} (xs ys : List ℤ) → Stands ws at (xs ++ ys) → Stands ws at xs
stands_first {ws} {at} xs ys s =
    let h = s.within in
    stands_of xs (ys ++ drop (at + length (xs ++ ys)) ws) (stands_then s ∙ append_assoc xs ys (drop (at + length (xs ++ ys)) ws)) (omega arith)

pub stands_second : {ws : List ℤ} {at : ℕ} (xs ys : List ℤ) → Stands ws at (xs ++ ys) → Stands ws (at + length xs) ys
stands_second {ws} {at} xs ys s =
    let rest : List ℤ = drop (at + length (xs ++ ys)) ws in
    let h = s.within in
    let k : at + length xs ≤ length ws = omega (arith, length-append xs ys) in
    let e : drop (length xs) (drop at ws) ≡ ys ++ rest = ap (drop (length xs)) (stands_then s ∙ append_assoc xs ys rest) ∙ drop-append_seam xs (ys ++ rest) in
    stands_of ys rest (sym (drop-drop (length xs) at ws) ∙ e) k

-- at most one term stands at a place
pub stands_unique : {ws : List ℤ} {at : ℕ} (a b : Term) → T (ok (single a)) → T (ok (single b)) → Stands ws at (encode (single a)) → Stands ws at (encode (single b)) → a ≡ b
stands_unique {ws} {at} a b x y s t =
    let p = (read_term_iff (drop at ws) a (drop (at + length (encode (single a))) ws)).1 (x, sym (stands_then s)) in
    let q = (read_term_iff (drop at ws) b (drop (at + length (encode (single b))) ws)).1 (y, sym (stands_then t)) in
    ap (λ (z : Term × List ℤ). z.0) (some-injective (a, drop (at + length (encode (single a))) ws) (b, drop (at + length (encode (single b))) ws) (sym p ∙ q))

-- the words from a place on start with these two
pub record Two (ws : List ℤ) (at : ℕ) (x y : ℤ) : Type 0 where
  pub room : at + 2 ≤ length ws
  pub first : get_or ws at (pos 0) ≡ x
  pub second : get_or ws (at + 1) (pos 0) ≡ y

pub two_words : (ws : List ℤ) (at n : ℕ) (x y : ℤ) (zs : List ℤ) → take n (drop at ws) ≡ x ∷ y ∷ zs → Two ws at x y
two_words ws at n x y zs e =
    let a : length (take n (drop at ws)) ≡ suc (suc (length zs)) = ap length e in
    let b = length-take n (drop at ws) in
    let c = length-drop at ws in
    let h : 0 < n = omega arith in
    let k : 1 < n = omega arith in
    record {
      room = omega arith;
      first = ap (λ (i : ℕ). get_or ws i (pos 0)) (sym (add-zero at)) ∙ (sym (get_or-drop at ws 0 (pos 0)) ∙ (sym (get_or-take n (drop at ws) 0 (pos 0) h) ∙ ap (λ (l : List ℤ). get_or l 0 (pos 0)) e));
      second = sym (get_or-drop at ws 1 (pos 0)) ∙ (sym (get_or-take n (drop at ws) 1 (pos 0) k) ∙ ap (λ (l : List ℤ). get_or l 1 (pos 0)) e);
    }
