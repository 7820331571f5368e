-- The input is cut exactly if it is four lines of at most 16,384 bytes, each ended by LF, and then at these LFs.
use mathlib.Core.Path.{◌≡◌, refl, sym, ap, ◌∙◌, subst}
use mathlib.Core.Bool.{Bool, true, false, cond}
use mathlib.Core.List.{List, [], ◌∷◌, ◌++◌, append_assoc}
use Prim.Native.Nat.{ℕ, zero, suc, ◌≤◌, ◌<◌}
use native.Mathlib.Omega.{arith}
use lib.Dec.{eqb, ltb}
use lib.ListN.{length, take, drop, get_or, length-append}
use lib.Seq.{take-append_seam, drop-append_seam, length-take-le}
use borrow.Author.Tests.{le-ltb, eq-eqb, ne_eqb, eqb-true, ltb-false}
use Rattle.std.specs.Prelude.{Option, None, Some, option_map, option_and_then}
use Rattle.cli.specs.Computed.Lines.{first_lf, split_line, FourLines, ending, lines_of}

-- a value after a partial one came from a value
pub came : {A B : Type 0} (f : A → Option B) (o : Option A) (b : B) → option_and_then f o ≡ Some b → (a : A) × (o ≡ Some a) × (f a ≡ Some b)
came f None b e = let z : ◌≡◌ {A = ℕ} 0 1 = cc in absurd (omega arith)
came f (Some a) b e = (a, refl, e)

-- ---- the first LF
abbrev pub NoLf : List ℕ → Type 0
NoLf [] = Unit {0}
NoLf (b ∷ bs) = (b ≡ 10 → ⊥) × NoLf bs

lf_complete : (l rest : List ℕ) → NoLf l → first_lf (l ++ (10 ∷ rest)) ≡ Some (length l)
unfolding first_lf
lf_complete [] rest h = refl
lf_complete (b ∷ l) rest h = rw (ne_eqb b 10 h.0, lf_complete l rest h.1)

abbrev Behind : List ℕ → Type 0
Behind bs = (k : ℕ) → first_lf bs ≡ Some k → (k < length bs) × (bs ≡ take k bs ++ (10 ∷ drop (suc k) bs))

lf_sound : (bs : List ℕ) (e : ℕ) → first_lf bs ≡ Some e → (e < length bs) × (bs ≡ take e bs ++ (10 ∷ drop (suc e) bs))
unfolding first_lf
lf_sound [] e q = let z : ◌≡◌ {A = ℕ} 0 1 = cc in absurd (omega arith)
lf_sound (b ∷ bs) e q = by_test (eqb b 10) refl q (λ k f. lf_sound bs k f)
  where
    by_rest : (o : Option ℕ) → first_lf bs ≡ o → option_map suc o ≡ Some e → Behind bs → (e < suc (length bs)) × (b ∷ bs ≡ take e (b ∷ bs) ++ (10 ∷ drop (suc e) (b ∷ bs)))
    by_rest None f g h = let z : ◌≡◌ {A = ℕ} 0 1 = cc in absurd (omega arith)
    by_rest (Some k) f g h =
        let i = h k f in
        let is : suc k ≡ e = cc in
        rw (← is) (omega (arith, i.0), ap (λ (t : List ℕ). b ∷ t) i.1)

    by_test : (t : Bool) → eqb b 10 ≡ t → cond t (Some 0) (option_map suc (first_lf bs)) ≡ Some e → Behind bs → (e < suc (length bs)) × (b ∷ bs ≡ take e (b ∷ bs) ++ (10 ∷ drop (suc e) (b ∷ bs)))
    by_test true f g h =
        let is : 0 ≡ e = cc in
        rw (← is) (omega arith, ap (λ (c : ℕ). c ∷ bs) (eqb-true b 10 f))
    by_test false f g h = by_rest (first_lf bs) refl g h

-- ---- one line
split_complete : (l rest : List ℕ) → NoLf l → length l ≤ 16384 → split_line (l ++ (10 ∷ rest)) ≡ Some (l, rest)
unfolding split_line
split_complete l rest h p =
    let front : take (length l) (l ++ (10 ∷ rest)) ≡ l = take-append_seam l (10 ∷ rest) in
    let whole : l ++ (10 ∷ rest) ≡ (l ++ (10 ∷ [])) ++ rest = simp append_assoc in
    let longer : suc (length l) ≡ length (l ++ (10 ∷ [])) = rw length-append (omega arith) in
    let back : drop (suc (length l)) (l ++ (10 ∷ rest)) ≡ rest = rw (whole, longer) (drop-append_seam (l ++ (10 ∷ [])) rest) in
    rw (lf_complete l rest h, le-ltb 16384 (length l) p, front, back)

pub record LineAt (input line rest : List ℕ) : Type 0 where
  pub split : input ≡ line ++ (10 ∷ rest)
  pub short : length line ≤ 16384

split_sound : (input : List ℕ) (p : List ℕ × List ℕ) → split_line input ≡ Some p → LineAt input p.0 p.1
unfolding split_line
split_sound input p q =
    let (e, f, g) = came (λ e. cond (ltb 16384 e) None (Some (take e input, drop (suc e) input))) (first_lf input) p q in
    by_test e (lf_sound input e f) (ltb 16384 e) refl g
  where
    by_test : (e : ℕ) → (e < length input) × (input ≡ take e input ++ (10 ∷ drop (suc e) input)) → (t : Bool) → ltb 16384 e ≡ t → cond t None (Some (take e input, drop (suc e) input)) ≡ Some p → LineAt input p.0 p.1
    by_test e h true f g = let z : ◌≡◌ {A = ℕ} 0 1 = cc in absurd (omega arith)
    by_test e h false f g =
        let front : take e input ≡ p.0 = cc in
        let back : drop (suc e) input ≡ p.1 = cc in
        record { split = rw (← front, ← back) h.1; short = rw (← front, length-take-le e input (omega (arith, h.0))) (ltb-false 16384 e f) }

-- ---- the four lines
pub record Lined (input : List ℕ) (lines : FourLines) : Type 0 where
  pub text : input ≡ lines.table ++ (10 ∷ (lines.configuration ++ (10 ∷ (lines.log ++ (10 ∷ (lines.limit ++ (10 ∷ [])))))))
  pub table : length lines.table ≤ 16384
  pub configuration : length lines.configuration ≤ 16384
  pub log : length lines.log ≤ 16384
  pub limit : length lines.limit ≤ 16384

ended : (lines x : FourLines) (rest : List ℕ) → ending lines rest ≡ Some x → (rest ≡ []) × (lines ≡ x)
ended lines x [] e = let f : lines ≡ x = cc in (refl, f)
ended lines x (b ∷ bs) e = let z : ◌≡◌ {A = ℕ} 0 1 = cc in absurd (omega arith)

joined : (input a b c d r1 r2 r3 r4 : List ℕ) → input ≡ a ++ (10 ∷ r1) → r1 ≡ b ++ (10 ∷ r2) → r2 ≡ c ++ (10 ∷ r3) → r3 ≡ d ++ (10 ∷ r4) → r4 ≡ [] → input ≡ a ++ (10 ∷ (b ++ (10 ∷ (c ++ (10 ∷ (d ++ (10 ∷ [])))))))
joined input a b c d r1 r2 r3 r4 p q r s t = p ∙ rw (q, r, s, t)

pub lines_sound : (input : List ℕ) (x : FourLines) → lines_of input ≡ Some x → Lined input x
unfolding lines_of
lines_sound input x e =
    let (a, p, e1) = came _ (split_line input) x e in
    let (b, q, e2) = came _ (split_line a.1) x e1 in
    let (c, r, e3) = came _ (split_line b.1) x e2 in
    let (d, s, e4) = came _ (split_line c.1) x e3 in
    let (nothing, is) = ended (record { table = a.0; configuration = b.0; log = c.0; limit = d.0 }) x d.1 e4 in
    let i = split_sound input a p in
    let j = split_sound a.1 b q in
    let k = split_sound b.1 c r in
    let l = split_sound c.1 d s in
    subst (Lined input) is (record {
      text = joined input a.0 b.0 c.0 d.0 a.1 b.1 c.1 d.1 i.split j.split k.split l.split nothing;
      table = i.short;
      configuration = j.short;
      log = k.short;
      limit = l.short;
    })

pub lines_complete : (a b c d : List ℕ) → NoLf a → NoLf b → NoLf c → NoLf d → length a ≤ 16384 → length b ≤ 16384 → length c ≤ 16384 → length d ≤ 16384
    → lines_of (a ++ (10 ∷ (b ++ (10 ∷ (c ++ (10 ∷ (d ++ (10 ∷ [])))))))) ≡ Some (record { table = a; configuration = b; log = c; limit = d })
unfolding lines_of
lines_complete a b c d p q r s h i j k =
    let last : List ℕ = d ++ (10 ∷ []) in
    let after : List ℕ = c ++ (10 ∷ last) in
    let others : List ℕ = b ++ (10 ∷ after) in
    rw (split_complete a others p h, split_complete b after q i, split_complete c last r j, split_complete d [] s k)

-- ---- the place that a search for the first LF gives
pub lf_found : (bs : List ℕ) (i : ℕ) → i < length bs → get_or bs i 0 ≡ 10 → ((k : ℕ) → k < i → get_or bs k 0 ≡ 10 → ⊥) → first_lf bs ≡ Some i
unfolding first_lf
lf_found [] i p e h = absurd (omega arith)
lf_found (b ∷ bs) zero p e h = rw (eq-eqb b 10 e)
lf_found (b ∷ bs) (suc i) p e h = rw (ne_eqb b 10 (h 0 (omega arith)), lf_found bs i (omega arith) e (λ k q. h (suc k) (omega arith)))

pub lf_nowhere : (bs : List ℕ) → ((k : ℕ) → k < length bs → get_or bs k 0 ≡ 10 → ⊥) → first_lf bs ≡ None
unfolding first_lf
lf_nowhere [] h = refl
lf_nowhere (b ∷ bs) h = rw (ne_eqb b 10 (h 0 (omega arith)), lf_nowhere bs (λ k q. h (suc k) (omega arith)))

pub lf_inside : (bs : List ℕ) (e : ℕ) → first_lf bs ≡ Some e → e < length bs
lf_inside bs e q = (lf_sound bs e q).0

pub taken : {A : Type 0} (n : ℕ) (xs : List A) → n ≤ length xs → n ≡ length (take n xs)
taken n xs p = sym (length-take-le n xs p)

pub ending_more : (lines : FourLines) (rest : List ℕ) → 0 < length rest → ending lines rest ≡ None
ending_more lines [] p = absurd (omega arith)
ending_more lines (b ∷ bs) p = refl
