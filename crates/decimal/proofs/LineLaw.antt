-- A line is read exactly if it is the text of numbers that fit the field, and then as these numbers.
use mathlib.Core.Path.{◌≡◌, refl, sym, ap, ◌∙◌, subst}
use mathlib.Core.Bool.{Bool, true, false, ◌&&◌, true≢false}
use mathlib.Core.List.{List, [], ◌∷◌, ◌++◌, map}
use Prim.Native.Nat.{ℕ, zero, suc, ◌+◌, ◌≤◌, ◌<◌}
use native.Mathlib.Omega.{arith}
use lib.IntN.{ℤ}
use lib.Dec.{T, eqb, leb, leb→le}
use lib.ListN.{length, drop, length-append}
use borrow.Author.Tests.{eq-eqb, ne_eqb, eqb-true, eqb-false, le-leb}
use Rattle.minuska.specs.Basics.{every}
use Rattle.minuska.proofs.Tests.{and_left, and_right, and_both, true_of}
use Rattle.std.specs.Prelude.{Option, None, Some}
use Rattle.decimal.specs.declared.number.Reading.{Reading}
use Rattle.decimal.specs.Decimal.{whole_text}
use Rattle.decimal.specs.Line.{continued, parted}
use Rattle.decimal.specs.Computed.Number.{number_at}
use Rattle.decimal.specs.Computed.Line.{kept, item_of, end_of, Items, followed, then_rest, items_from, items, accepted}
use Rattle.decimal.proofs.ListLaw.{behind, behind_head, within}
use Rattle.decimal.specs.Number.{number_of, Small, Ends, Standing}
use Rattle.decimal.proofs.NumberLaw.{text_there, number_complete}
use Rattle.decimal.proofs.SoundLaw.{Sound, number_sound}

-- what a field is: its numbers, their text, and which fit
pub record FieldLaw {A : Type 0} (whole : A → ℤ) (text : A → List ℕ) (fits : A → Bool) (field : ℤ → Option A) : Type 0 where
  pub texts : (x : A) → text x ≡ whole_text (whole x)
  pub sound : (z : ℤ) (x : A) → field z ≡ Some x → (z ≡ whole x) × T (fits x)
  pub complete : (x : A) → T (fits x) → field (whole x) ≡ Some x
  pub small : (x : A) → T (fits x) → Small (whole x)

-- a value that was kept passes the test
pub kept_some : {A : Type 0} (b : Bool) (y x : A) → kept b y ≡ Some x → T b × (y ≡ x)
kept_some true y x e = let f : y ≡ x = cc in (tt, f)
kept_some false y x e = let z : ◌≡◌ {A = ℕ} 0 1 = cc in absurd (omega arith)

pub kept_true : {A : Type 0} (b : Bool) (x : A) → T b → kept b x ≡ Some x
kept_true true x t = refl
kept_true false x t = absurd t

pub no_bytes : (l : List ℕ) → length l ≡ 0 → l ≡ []
no_bytes [] e = refl
no_bytes (x ∷ l) e = absurd (omega arith)

module _ {A : Type 0} (whole : A → ℤ) (text : A → List ℕ) (fits : A → Bool) (field : ℤ → Option A) (law : FieldLaw whole text fits field) (line : List ℕ) where
  -- ---- sound
  record Listed (at : ℕ) (xs : List A) : Type 0 where
    pub stands : drop at line ≡ parted (map text xs)
    pub each : T (every fits xs)
    pub there : 0 < length xs

  abbrev IfWhole : ℕ → Items A → Type 0
  IfWhole at i = i.whole ≡ true → Listed at i.read

  -- a last number; a number before others
  last_item : (at e : ℕ) (x : A) → Standing line at (whole x) e → T (fits x) → e ≡ length line → Listed at (x ∷ [])
  last_item at e x h t q =
      let w = within line at (whole_text (whole x)) h.rest h.text (text_there (whole x)) in
      let nothing : h.rest ≡ [] = no_bytes h.rest (omega (arith, h.ends, w, q)) in
      record { stands = h.text ∙ rw (nothing, law.texts x); each = and_both (fits x) true t tt; there = omega arith }

  more_items : (at e : ℕ) (x : A) (xs : List A) (rest : List ℕ) → drop at line ≡ whole_text (whole x) ++ rest → Ends rest → e ≡ at + length (whole_text (whole x))
      → T (fits x) → (e ≡ length line → ⊥) → Listed (suc e) xs → Listed at (x ∷ xs)
  more_items at e x xs [] s n q t u i =
      let w = within line at (whole_text (whole x)) [] s (text_there (whole x)) in
      absurd (u (omega arith))
  more_items at e x [] (b ∷ rest) s n q t u i = absurd (omega (arith, i.there))
  more_items at e x (y ∷ ys) (b ∷ rest) s n q t u i =
      let g : drop e line ≡ b ∷ rest = ap (λ (k : ℕ). drop k line) q ∙ behind line at (whole_text (whole x)) (b ∷ rest) s in
      let others : rest ≡ parted (map text (y ∷ ys)) = sym (behind_head line e b rest g) ∙ i.stands in
      record { stands = s ∙ rw (n, others, law.texts x); each = and_both (fits x) (every fits (y ∷ ys)) t i.each; there = omega arith }

  by_end : (at e : ℕ) (x : A) (rest : ℕ → Items A) → Standing line at (whole x) e → T (fits x) → IfWhole (suc e) (rest (suc e)) → IfWhole at (then_rest field line rest e (Some x))
  by_end at e x rest h t i = by_test (eqb e (length line)) refl
    where
      by_test : (b : Bool) → eqb e (length line) ≡ b → IfWhole at (followed b x (rest (suc e)))
      by_test true p w = last_item at e x h t (eqb-true e (length line) p)
      by_test false p w = more_items at e x (rest (suc e)).read h.rest h.text h.parted h.ends t (eqb-false e (length line) p) (i w)

  by_item : (at e : ℕ) (z : ℤ) (o : Option A) (rest : ℕ → Items A) → field z ≡ o → Standing line at z e → IfWhole (suc e) (rest (suc e)) → IfWhole at (then_rest field line rest e o)
  by_item at e z None rest q h i w = absurd (true≢false (sym w))
  by_item at e z (Some x) rest q h i w =
      let s = law.sound z x q in
      by_end at e x rest (subst (λ (y : ℤ). Standing line at y e) s.0 h) s.1 i w

  by_number : (at : ℕ) (n : Option Reading) (rest : ℕ → Items A) → Sound line at n → ((e : ℕ) → IfWhole e (rest e)) → IfWhole at (then_rest field line rest (end_of n) (item_of field n))
  by_number at None rest h i w = absurd (true≢false (sym w))
  by_number at (Some r) rest h i w = by_item at r.end r.number (field r.number) rest refl h (i (suc r.end)) w

  items_sound : (f at : ℕ) → IfWhole at (items_from field line f at)
  unfolding items_from
  items_sound zero at w = absurd (true≢false (sym w))
  items_sound (suc f) at w = by_number at (number_at line at) (λ e. items_from field line f e) (number_sound line at) (λ e. items_sound f e) w

  -- ---- complete
  abbrev All : List A → Items A
  All xs = record { read = xs; whole = true }

  one_item : (f at : ℕ) (x : A) (rest : List ℕ) → drop at line ≡ text x ++ rest → T (fits x) → Ends rest
      → items_from field line (suc f) at ≡ then_rest field line (λ e. items_from field line f e) (at + length (text x)) (Some x)
  unfolding items_from
  one_item f at x rest s t n =
      let r : number_at line at ≡ number_of (whole x) (at + length (whole_text (whole x))) =
      number_complete line at (whole x) rest (s ∙ ap (λ (u : List ℕ). u ++ rest) (law.texts x)) (law.small x t) n in
      rw (r, law.texts x, law.complete x t)

  pub text_pos : (x : A) → 0 < length (text x)
  text_pos x = rw (law.texts x) (text_there (whole x))

  items_complete : (xs : List A) (x : A) (f at : ℕ) → length xs ≤ f → drop at line ≡ parted (map text (x ∷ xs)) → T (every fits (x ∷ xs)) → items_from field line (suc f) at ≡ All (x ∷ xs)
  items_complete [] x f at p s t =
      let w = within line at (text x) [] s (text_pos x) in
      one_item f at x [] s (and_left (fits x) true t) tt ∙ rw (eq-eqb (at + length (text x)) (length line) (omega arith))
  items_complete (y ∷ ys) x zero at p s t = absurd (omega arith)
  items_complete (y ∷ ys) x (suc f) at p s t =
      let rest : List ℕ = continued (map text (y ∷ ys)) in
      let w : at + length (text x) + length rest ≡ length line = within line at (text x) rest s (text_pos x) in
      let n : drop (suc (at + length (text x))) line ≡ parted (map text (y ∷ ys)) = behind_head line (at + length (text x)) 44 (parted (map text (y ∷ ys))) (behind line at (text x) rest s) in
      one_item (suc f) at x rest s (and_left (fits x) (every fits (y ∷ ys)) t) refl ∙
      rw (ne_eqb (at + length (text x)) (length line) (λ z. omega arith), items_complete ys y f (suc (at + length (text x))) (omega arith) n (and_right (fits x) (every fits (y ∷ ys)) t))

  -- ---- both
  parted_length : (xs : List A) → length xs ≤ length (continued (map text xs))
  parted_length [] = omega arith
  parted_length (x ∷ xs) = let i = parted_length xs in omega (arith, length-append (text x) (continued (map text xs)))

  pub field_complete : (room : ℕ) (xs : List A) → line ≡ parted (map text xs) → T (every fits xs) → 1 ≤ length xs → length xs ≤ room → accepted room (items field line) ≡ Some xs
  unfolding accepted items
  field_complete room [] s t p q = absurd (omega arith)
  field_complete room (x ∷ xs) s t p q =
      let long : length xs ≤ length line = rw (s, length-append) (omega (arith, parted_length xs)) in
      rw (items_complete xs x (length line) 0 long s t, le-leb (length (x ∷ xs)) room q)

  pub field_sound : (room : ℕ) (xs : List A) → accepted room (items field line) ≡ Some xs → (line ≡ parted (map text xs)) × T (every fits xs) × (1 ≤ length xs) × (length xs ≤ room)
  unfolding accepted items
  field_sound room xs e =
      let i : Items A = items_from field line (suc (length line)) 0 in
      let (t, l) = kept_some (i.whole && leb (length i.read) room) i.read xs e in
      let s = items_sound (suc (length line)) 0 (true_of i.whole (and_left i.whole (leb (length i.read) room) t)) in
      rw (← l) (s.stands, s.each, s.there, leb→le (length i.read) room (and_right i.whole (leb (length i.read) room) t))
