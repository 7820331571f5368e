-- Stores in a frame's table: it is set up empty, takes the frame's own configuration, and has nothing else that it did not have.
use mathlib.Core.Path.{◌≡◌, refl, sym, ap, ◌∙◌, subst, subst⁻¹}
use mathlib.Core.Logic.{◌⊎◌, inl, inr}
use mathlib.Core.List.{List}
use Prim.Native.Nat.{ℕ, ◌+◌, ◌-◌, ◌*◌, ◌≤◌, ◌<◌}
use native.Mathlib.Decide.{dec_lt}
use native.Mathlib.Omega.{arith}
use lib.IntN.{ℤ, pos}
use lib.ListN.{length, get_or, take, drop, set, length-set}
use lib.Seq.{paste, length-paste, get_or-set_same, get_or-set_other, length-take-le, take-take, drop-set-lt, drop-paste}
use Rattle.words.specs.Number.{nat_of}
use Rattle.words.proofs.PartLaw.{front_same, part_same, word_below, word_behind, drop_later}
use Rattle.words.proofs.CopyLaw.{paste_below, paste_behind, paste_there}
use Rattle.memory.specs.Layout.{length_of, words_of, OwnFits, entered, Enters}
use Rattle.memory.specs.Memory.{least, width_of, slots_of, head_of, Filed, Known, Keeps, Inside, Slot, Heads, Opens, Readies, Puts, Keeping}
use Rattle.memory.proofs.LayoutLaw.{same_length, same_words, enters}
use Rattle.memory.proofs.MemoryLaw.{same_width, same_slots, same_head, filed, slot_before, slot_ends, slot_room, slot_above, entry_filed, entry_wide}

unchanged : (w : List ℤ) → Inside w w
unchanged w = record { wide = refl; behind = refl }

inside_length : (w w' : List ℤ) → Inside w w' → length_of w' ≡ length_of w
inside_length w w' i = same_length w w' i.wide (word_behind w w' (length w - 2) i.behind (length w - 2) (omega arith))

pub inside_spare : (w w' : List ℤ) → Inside w w' → OwnFits w → OwnFits w'
inside_spare w w' i s = omega (arith, inside_length w w' i, i.wide)

-- ---- the frame's own configuration is put into a slot
module _ (w : List ℤ) (words p : ℕ) (s : Slot w words p) where
  abbrev own : ℕ
  own = length_of w

  abbrev span : ℕ
  span = width_of w

  w₁ : List ℤ
  w₁ = set w p (pos own)

  w₂ : List ℤ
  w₂ = paste w₁ (p + 1) (take own w₁) own

  bounds : (p + span + 4 ≤ length w) × (span ≤ p) × (own < span)
  bounds = (slot_room w words p s, slot_above w words p s, s.own)

  long₁ : length w₁ ≡ length w
  unfolding w₁
  long₁ = length-set w p (pos own)

  part_long : length (take own w₁) ≡ own
  part_long = let b = bounds in length-take-le own w₁ (omega (arith, long₁))

  fits₁ : p + 1 + own ≤ length w₁
  fits₁ = let b = bounds in omega (arith, long₁)

  long₂ : length w₂ ≡ length w
  unfolding w₂
  long₂ = length-paste w₁ (p + 1) (take own w₁) own fits₁ (omega (arith, part_long)) ∙ long₁

  below₂ : (j : ℕ) → j < p → get_or w₂ j (pos 0) ≡ get_or w j (pos 0)
  unfolding w₂ w₁
  below₂ j h = paste_below w₁ (p + 1) (take own w₁) own fits₁ (omega (arith, part_long)) j (omega arith) ∙ get_or-set_other w p j (pos own) (pos 0) (omega arith)

  behind₂ : (j : ℕ) → p + 1 + own ≤ j → get_or w₂ j (pos 0) ≡ get_or w j (pos 0)
  unfolding w₂ w₁
  behind₂ j h = paste_behind w₁ (p + 1) (take own w₁) own fits₁ (omega (arith, part_long)) j h ∙ get_or-set_other w p j (pos own) (pos 0) (omega arith)

  head₂ : head_of w₂ p ≡ own
  unfolding w₂ w₁ head_of
  head₂ =
      let b = bounds in
      ap nat_of (paste_below w₁ (p + 1) (take own w₁) own fits₁ (omega (arith, part_long)) p (omega arith) ∙ get_or-set_same w p (pos own) (pos 0) (omega arith))

  words₂ : take own (drop (p + 1) w₂) ≡ words_of w
  unfolding w₂ w₁ words_of
  words₂ =
      let b = bounds in
      paste_there w₁ (p + 1) (take own w₁) own fits₁ (omega (arith, part_long))
      ∙ take-take own own w₁ (omega arith)
      ∙ front_same own w w₁ long₁ (λ j h. get_or-set_other w p j (pos own) (pos 0) (omega arith))

  width₂ : width_of w₂ ≡ span
  width₂ = let b = bounds in same_width w w₂ long₂ (behind₂ (length w - 3) (omega (arith, b.0, b.2)))

  slots₂ : slots_of w₂ ≡ slots_of w
  slots₂ = let b = bounds in same_slots w w₂ long₂ (behind₂ (length w - 4) (omega (arith, b.0, b.2)))

  inside₂ : Inside w w₂
  unfolding w₂ w₁
  inside₂ =
      let b = bounds in
      record {
        wide = long₂;
        behind = drop_later (p + 1 + own) (length w - 2) w₂ w (drop-paste w₁ (p + 1) (take own w₁) own (omega (arith, long₁)) (omega (arith, part_long)) ∙ drop-set-lt (p + 1 + own) w p (pos own) (omega arith)) (omega arith);
      }

  -- nothing else is put
  module _ (c : List ℤ) (f : Filed w₂ c) where
    abbrev place : ℕ
    place = f.slot * span

    begins : f.slot * span + span + 4 ≤ length w
    begins = omega (arith, slot_ends f.slot (slots_of w₂) span (length w₂) f.last (subst (λ (k : ℕ). (slots_of w₂ + 1) * k + 4 ≤ length w₂) width₂ f.fits), long₂)

    some₂ : 0 < head_of w₂ place
    some₂ = subst (λ (k : ℕ). 0 < head_of w₂ (f.slot * k)) width₂ f.some

    short₂ : head_of w₂ place < span
    short₂ = subst (λ (k : ℕ). head_of w₂ (f.slot * k) < k) width₂ f.short

    is₂ : take (head_of w₂ place) (drop (place + 1) w₂) ≡ c
    is₂ = subst (λ (k : ℕ). take (head_of w₂ (f.slot * k)) (drop (f.slot * k + 1) w₂) ≡ c) width₂ f.is

    another : ((j : ℕ) → place ≤ j → j < place + span → get_or w₂ j (pos 0) ≡ get_or w j (pos 0)) → Filed w c
    another same =
        let h = short₂ in
        let eh : head_of w place ≡ head_of w₂ place = sym (same_head w w₂ place (same place (omega arith) (omega arith))) in
        filed w c span (slots_of w) f.slot (head_of w₂ place) refl refl eh s.wide s.fits f.first (subst (λ (k : ℕ). f.slot ≤ k) slots₂ f.last) some₂ h
        (sym (part_same (place + 1) (head_of w₂ place) w w₂ long₂ (λ j x y. same j (omega arith) (omega arith))) ∙ is₂)

    this : f.slot ≡ s.slot → c ≡ words_of w
    this e =
        let q : place ≡ p = ap (λ (k : ℕ). k * span) e ∙ sym s.place in
        let z : take own (drop (p + 1) w₂) ≡ c = subst (λ (k : ℕ). take k (drop (p + 1) w₂) ≡ c) head₂ (subst (λ (k : ℕ). take (head_of w₂ k) (drop (k + 1) w₂) ≡ c) q is₂) in
        sym z ∙ words₂

    puts : Filed w c ⊎ ((0 < length_of w) × (c ≡ words_of w))
    puts = side (dec_lt f.slot s.slot) (dec_lt s.slot f.slot)
      where
        side : Dec (f.slot < s.slot) → Dec (s.slot < f.slot) → Filed w c ⊎ ((0 < length_of w) × (c ≡ words_of w))
        side (yes h) k = let b = slot_before f.slot s.slot span h in let q = s.place in inl (another (λ j x y. below₂ j (omega arith)))
        side (no h) (yes k) = let b = slot_before s.slot f.slot span k in let q = s.place in let z = s.own in inl (another (λ j x y. behind₂ j (omega arith)))
        side (no h) (no k) = inr (s.some, this (omega arith))

  pub own_puts : (w' : List ℤ) → w' ≡ paste (set w p (pos own)) (p + 1) (take own (set w p (pos own))) own → Puts w w'
  unfolding w₂ w₁
  own_puts w' e = subst⁻¹ (λ (x : List ℤ). Puts w x) e (record { inside = inside₂; width = width₂; files = puts })

pub none_put : (w : List ℤ) → Puts w w
none_put w = record { inside = unchanged w; width = refl; files = λ c f. inl f }

-- ---- no table
module _ (w : List ℤ) (wide : least ≤ length w) where
  shut_long : length (set w (length w - 3) (pos 0)) ≡ length w
  shut_long = length-set w (length w - 3) (pos 0)

  shut_width : width_of (set w (length w - 3) (pos 0)) ≡ 0
  unfolding width_of
  shut_width = ap (λ (n : ℕ). nat_of (get_or (set w (length w - 3) (pos 0)) (n - 3) (pos 0))) shut_long ∙ ap nat_of (get_or-set_same w (length w - 3) (pos 0) (pos 0) (omega arith))

  pub shut_opens : Opens w (set w (length w - 3) (pos 0))
  shut_opens =
      let e = shut_width in
      record { inside = record { wide = shut_long; behind = drop-set-lt (length w - 2) w (length w - 3) (pos 0) (omega arith) }; none_filed = λ c f. let k = f.short in let x : ⊥ = omega arith in x; stands = λ h. absurd (let x : ⊥ = omega arith in x) }

-- ---- a table anew
module _ (w : List ℤ) (wide : least ≤ length w) (width count : ℕ) (w₁ : List ℤ) (more : length_of w < width) (in_room : (count + 1) * width + 4 ≤ length w) (heads : Heads w w₁ width count) where
  a₂ : List ℤ
  a₂ = set w₁ (length w - 3) (pos width)

  a₃ : List ℤ
  a₃ = set a₂ (length w - 4) (pos count)

  within : width + 4 ≤ length w
  within = omega (arith, slot_ends 0 count width (length w) (omega arith) in_room)

  a_long : length a₃ ≡ length w
  unfolding a₃ a₂
  a_long = length-set a₂ (length w - 4) (pos count) ∙ length-set w₁ (length w - 3) (pos width) ∙ heads.wide

  a_other : (j : ℕ) → (j ≡ length w - 3 → ⊥) → (j ≡ length w - 4 → ⊥) → get_or a₃ j (pos 0) ≡ get_or w₁ j (pos 0)
  unfolding a₃ a₂
  a_other j h k = get_or-set_other a₂ (length w - 4) j (pos count) (pos 0) k ∙ get_or-set_other w₁ (length w - 3) j (pos width) (pos 0) h

  a_width : width_of a₃ ≡ width
  unfolding a₃ a₂ width_of
  a_width =
      ap (λ (n : ℕ). nat_of (get_or a₃ (n - 3) (pos 0))) a_long
      ∙ ap nat_of (get_or-set_other a₂ (length w - 4) (length w - 3) (pos count) (pos 0) (omega arith)
      ∙ get_or-set_same w₁ (length w - 3) (pos width) (pos 0) (omega (arith, heads.wide)))

  a_slots : slots_of a₃ ≡ count
  unfolding a₃ a₂ slots_of
  a_slots =
      ap (λ (n : ℕ). nat_of (get_or a₃ (n - 4) (pos 0))) a_long
      ∙ ap nat_of (get_or-set_same a₂ (length w - 4) (pos count) (pos 0) (omega (arith, length-set w₁ (length w - 3) (pos width), heads.wide)))

  a_empty : (s : ℕ) → 0 < s → s ≤ count → head_of a₃ (s * width) ≡ 0
  unfolding head_of
  a_empty s h k =
      let e = slot_ends s count width (length w) k in_room in
      ap nat_of (a_other (s * width) (omega (arith, within)) (omega (arith, within)) ∙ heads.empty s h k)

  a_words : words_of a₃ ≡ words_of w
  a_words =
      let v = within in
      let n : get_or a₃ (length w - 2) (pos 0) ≡ get_or w (length w - 2) (pos 0) = a_other (length w - 2) (omega arith) (omega arith) ∙ word_behind w w₁ ((count + 1) * width) heads.behind (length w - 2) (omega arith) in
      same_words w a₃ a_long (same_length w a₃ a_long n) (λ j h. a_other j (omega arith) (omega arith) ∙ word_below w w₁ width heads.below j (omega arith))

  pub anew_opens : Opens w (set (set w₁ (length w - 3) (pos width)) (length w - 4) (pos count))
  unfolding a₃ a₂
  anew_opens =
      record {
        inside = record {
          wide = a_long;
          behind = drop-set-lt (length w - 2) a₂ (length w - 4) (pos count) (omega arith) ∙ drop-set-lt (length w - 2) w₁ (length w - 3) (pos width) (omega arith)
              ∙ drop_later ((count + 1) * width) (length w - 2) w₁ w heads.behind (omega arith);
        };
        none_filed = λ c f. none c f;
        stands = λ h. a_words;
      }
    where
      none : (c : List ℤ) → Filed a₃ c → ⊥
      none c f =
          let k : 0 < head_of a₃ (f.slot * width) = subst (λ (x : ℕ). 0 < head_of a₃ (f.slot * x)) a_width f.some in
          let e = a_empty f.slot f.first (subst (λ (x : ℕ). f.slot ≤ x) a_slots f.last) in
          omega arith

-- ---- a table that takes one more
module _ (w : List ℤ) (words : ℕ) where
  pub opens_readies : (w' : List ℤ) → Opens w w' → Readies w w' words
  opens_readies w' o = record { inside = o.inside; files = λ c h f. absurd (o.none_filed c f); stands = o.stands }

  pub kept_shut : (w' : List ℤ) → Opens w w' → Keeping w w' words
  kept_shut w' o = record { inside = o.inside; files = λ c h f. absurd (o.none_filed c f) }

  pub kept_both : (w₁ w₂ : List ℤ) → Readies w w₁ words → Puts w₁ w₂ → Keeping w w₂ words
  kept_both w₁ w₂ r p =
      let i = r.inside in
      let k = p.inside in
      record { inside = record { wide = k.wide ∙ i.wide; behind = ap (λ (n : ℕ). drop (n - 2) w₂) (sym i.wide) ∙ k.behind ∙ ap (λ (n : ℕ). drop (n - 2) w₁) i.wide ∙ i.behind }; files = λ c h f. old c (omega (arith, h, p.width)) (p.files c f) }
    where
      own_length : length_of w₁ ≡ length_of w
      own_length = inside_length w w₁ r.inside

      old : (c : List ℤ) → words < width_of w₁ → Filed w₁ c ⊎ ((0 < length_of w₁) × (c ≡ words_of w₁)) → Known w c
      old c h (inl f) = inl (r.files c h f)
      old c h (inr f) = inr (subst (λ (n : ℕ). 0 < n) own_length f.0, f.1 ∙ r.stands (omega arith))

-- ---- the frame anew
module _ (w cs w₁ : List ℤ) (small : length cs + 2 ≤ length w) (k : Keeping w w₁ (length cs)) where
  small₁ : length cs + 2 ≤ length w₁
  small₁ = omega (arith, k.inside.wide)

  pub kept_enters : Enters w (entered w₁ cs) cs
  kept_enters =
      let e = enters w₁ cs small₁ in
      record { wide = e.wide ∙ k.inside.wide; long = e.long; words = e.words; position = e.position }

  pub kept_keeps : Keeps w (entered w₁ cs)
  kept_keeps c e = k.files c (entry_wide w₁ cs small₁ c e) (entry_filed w₁ cs small₁ c e)
