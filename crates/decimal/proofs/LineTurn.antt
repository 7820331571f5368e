-- The turns and returns of the loop that reads the numbers of a line, for any field.
use mathlib.Core.Path.{◌≡◌, refl, sym, ap, ◌∙◌, subst}
use mathlib.Core.Bool.{Bool, true, false, ◌&&◌, true≢false}
use mathlib.Core.List.{List, [], ◌∷◌, ◌++◌, append-nil, append_assoc}
use Prim.Native.Nat.{ℕ, zero, suc, ◌+◌, ◌-◌, ◌≤◌, ◌<◌}
use native.Mathlib.Omega.{arith}
use native.Mathlib.Numerals.{add-one}
use lib.IntN.{ℤ, pos, negsuc}
use lib.Dec.{eqb, leb}
use lib.ListN.{length, take, drop, set, length-append, length-set, take-append-drop}
use lib.Seq.{take_all, take_at, take-suc-set, drop-set-lt, length-take-le, drop-length, drop-drop, take-nil}
use mir.Syntax.{w128}
use mir.Val.{SFits, to_z, of_z}
use mir.Facts.{to_z-of_z}
use borrow.Author.Tests.{eq-eqb, ne_eqb, le-leb, lt-leb}
use Rattle.std.specs.Prelude.{Option, None, Some, option_map}
use Rattle.minuska.specs.Slice.{write}
use Rattle.decimal.specs.declared.number.Reading.{Reading}
use Rattle.decimal.specs.declared.reader.NumberReader.{NumberReader}
use Rattle.decimal.specs.Computed.Number.{number_at}
use Rattle.decimal.specs.Number.{Small, place_behind, NextContract}
use Rattle.decimal.specs.Computed.Line.{kept, item_of, end_of, Items, followed, then_rest, items_from, items, log_items, action_of, accepted, ReadInto}
use Rattle.decimal.proofs.SoundLaw.{Sound, number_sound, stands_inside}

-- ---- one number after the other
abbrev joined : {A : Type 0} → List A → Items A → Items A
joined xs i = record { read = xs ++ i.read; whole = i.whole }

-- `count` numbers stand in the slice; what is left of the line's numbers starts at `at`
pub record Going {A : Type 0} (field : ℤ → Option A) (line : List ℕ) (old out : List A) (at count : ℕ) : Type 0 where
  pub before : count ≤ at
  pub inside : at ≤ length line
  pub room : count ≤ length out
  pub same : length out ≡ length old
  pub are : items field line ≡ joined (take count out) (items_from field line (suc (length line - count)) at)
  pub kept : drop count out ≡ drop count old

-- where a number that was read ends
number_end : {A : Type 0} (field : ℤ → Option A) (line : List ℕ) (at : ℕ) (x : A) (n : Option Reading) → Sound line at n → item_of field n ≡ Some x → (at < end_of n) × (end_of n ≤ length line)
number_end field line at x None h q = let z : ◌≡◌ {A = ℕ} 0 1 = cc in absurd (omega arith)
number_end field line at x (Some r) h q = stands_inside line at r.number r.end h

-- some numbers, and all there are
pub whole_there : {A : Type 0} (field : ℤ → Option A) (line : List ℕ) (f at : ℕ) → (items_from field line f at).whole ≡ true → 0 < length (items_from field line f at).read
unfolding items_from
whole_there field line zero at w = absurd (true≢false (sym w))
whole_there {A} field line (suc f) at w = by_item (item_of field (number_at line at)) w
  where
    by_end : (b : Bool) (x : A) (i : Items A) → 0 < length (followed b x i).read
    by_end true x i = omega arith
    by_end false x i = omega arith

    by_item : (o : Option A) → (then_rest field line (λ e. items_from field line f e) (end_of (number_at line at)) o).whole ≡ true → 0 < length (then_rest field line (λ e. items_from field line f e) (end_of (number_at line at)) o).read
    by_item None w = absurd (true≢false (sym w))
    by_item (Some x) w = by_end (eqb (end_of (number_at line at)) (length line)) x (items_from field line f (suc (end_of (number_at line at))))

-- more numbers than there is room for
over_full : {A : Type 0} (room : ℕ) (i : Items A) → (i.whole ≡ true → room < length i.read) → None ≡ option_map length (accepted room i)
unfolding accepted
over_full room i h = by_whole i.whole refl
  where
    by_whole : (b : Bool) → i.whole ≡ b → None ≡ option_map length (kept (b && leb (length i.read) room) i.read)
    by_whole true q = rw (lt-leb (length i.read) room (h q))
    by_whole false q = refl

only_kept : {A : Type 0} (out old more : List A) → length out ≡ length old → out ≡ write (take (length old) (out ++ more)) old
only_kept out old more e = rw (take_at out more (length old) e, e, drop-length, append-nil)

module _ {A : Type 0} (field : ℤ → Option A) (line : List ℕ) (old : List A) where
  pub begins : Going field line old old 0 0
  unfolding items
  begins =
      let e : length line - 0 ≡ length line = omega arith in
      record { before = omega arith; inside = omega arith; room = omega arith; same = refl; are = rw e; kept = refl }

  -- a slice that holds the numbers read, all of which it has room for
  leaves_all : (xs out : List A) → length xs ≤ length old → out ≡ write xs old → out ≡ write (take (length old) xs) old
  leaves_all xs out p e = rw (take_all (length old) xs p) e

  module _ (out : List A) (at count : ℕ) (g : Going field line old out at count) where
    so_far : out ≡ write (take count out) old
    so_far = sym (take-append-drop count out) ∙ (rw (g.kept, length-take-le count out g.room))

    count_length : length (take count out) ≡ count
    count_length = length-take-le count out g.room

    -- a fault
    pub faults : item_of field (number_at line at) ≡ None → ReadInto (items field line) old out None
    unfolding items_from accepted
    faults e =
        rw (g.are, e)
        (record { answer = refl; leaves = leaves_all (take count out ++ []) out (rw (append-nil, count_length) (omega (arith, g.room, g.same))) (so_far ∙ rw append-nil) })

    module _ (x : A) (end : ℕ) (p : count < length out) (e : item_of field (number_at line at) ≡ Some x) (f : end_of (number_at line at) ≡ end) where
      -- the slice with one more
      one_more : take (suc count) (set out count x) ≡ take count out ++ (x ∷ [])
      one_more = take-suc-set out count x p

      kept_more : drop (suc count) (set out count x) ≡ drop (suc count) old
      kept_more =
          drop-set-lt (suc count) out count x (omega arith) ∙
          (ap (λ (k : ℕ). drop k out) (sym (add-one count)) ∙
          (sym (drop-drop 1 count out) ∙ (ap (drop 1) g.kept ∙ (drop-drop 1 count old ∙ ap (λ (k : ℕ). drop k old) (add-one count)))))

      one_length : length (take count out ++ (x ∷ [])) ≡ suc count
      one_length = rw (length-append, count_length) (omega arith)

      stored : set out count x ≡ write (take count out ++ (x ∷ [])) old
      stored = sym (take-append-drop (suc count) (set out count x)) ∙ rw (one_more, kept_more, one_length)

      -- the last number
      pub ends : end ≡ length line → ReadInto (items field line) old (set out count x) (Some (count + 1))
      unfolding items_from accepted
      ends q =
          rw (g.are, e, f, eq-eqb end (length line) q)
          (record {
            answer = rw (one_length, le-leb (suc count) (length old) (omega (arith, g.same)), add-one) (ap Some (sym one_length));
            leaves = leaves_all (take count out ++ (x ∷ [])) (set out count x) (rw one_length (omega (arith, g.same))) stored;
          })

      -- a number before others
      before_others : (k : ℕ) → (end ≡ length line → ⊥) → joined (take count out) (items_from field line (suc k) at) ≡ joined (take count out ++ (x ∷ [])) (items_from field line k (suc end))
      unfolding items_from
      before_others k q = rw (e, f, ne_eqb end (length line) q, append_assoc)

      pub goes : (end ≡ length line → ⊥) → Going field line old (set out count x) (end + 1) (count + 1)
      goes q =
          let (far, near) = number_end field line at x (number_at line at) (number_sound line at) e in
          let less : length line - count ≡ suc (length line - (count + 1)) = omega (arith, g.before, f) in
          let next : take (count + 1) (set out count x) ≡ take count out ++ (x ∷ []) = rw add-one one_more in
          record {
            before = omega (arith, g.before, f);
            inside = omega (arith, f);
            room = rw length-set (omega arith);
            same = length-set out count x ∙ g.same;
            are = rw (next, ← less, add-one end) (g.are ∙ before_others (length line - count) q);
            kept = rw add-one kept_more;
          }

    -- no room for another
    pub full : length out ≤ count → ReadInto (items field line) old out None
    full p =
        let all : take count out ≡ out = take_all count out p in
        let rest : Items A = items_from field line (suc (length line - count)) at in
        rw (g.are, all)
        (record {
          answer = over_full (length old) (joined out rest) (λ w. rw length-append (omega (arith, whole_there field line (suc (length line - count)) at w, g.same)));
          leaves = only_kept out old rest.read g.same;
        })

    -- ---- with the reader's next number
    module _ (before after : NumberReader) (number : Option ℤ) (k : NextContract before number after) (of_line : before.line.now ≡ line) (of_place : before.at ≡ at) where
      pub next_is : k.reading ≡ number_at line at
      next_is = k.stands.answer ∙ rw (of_line, of_place)

      by_reading : (o : Option Reading) → number ≡ option_map (λ r. r.number) o → number ≡ None → item_of field o ≡ None
      by_reading None e f = refl
      by_reading (Some r) e f = let z : ◌≡◌ {A = ℕ} 0 1 = cc in absurd (omega arith)

      pub no_next : number ≡ None → ReadInto (items field line) old out None
      no_next e = faults (ap (item_of field) (sym next_is) ∙ by_reading k.reading k.gives e)

      module _ (z : ℤ) (e : number ≡ Some z) where
        the_item : (o : Option Reading) → number ≡ option_map (λ r. r.number) o → item_of field o ≡ field z
        the_item None q = let z : ◌≡◌ {A = ℕ} 0 1 = cc in absurd (omega arith)
        the_item (Some r) q = let f : r.number ≡ z = cc in ap field f

        item : item_of field (number_at line at) ≡ field z
        item = ap (item_of field) (sym next_is) ∙ the_item k.reading k.gives

        the_place : (o : Option Reading) → number ≡ option_map (λ r. r.number) o → place_behind before.at o ≡ suc (end_of o)
        the_place None q = let z : ◌≡◌ {A = ℕ} 0 1 = cc in absurd (omega arith)
        the_place (Some r) q = refl

        place : after.at ≡ suc (end_of (number_at line at))
        place = k.place ∙ (the_place k.reading k.gives ∙ ap (λ (o : Option Reading). suc (end_of o)) next_is)

        small : (o : Option Reading) → number ≡ option_map (λ r. r.number) o → Sound line at o → Small z
        small None q h = let z : ◌≡◌ {A = ℕ} 0 1 = cc in absurd (omega arith)
        small (Some r) q h = let f : r.number ≡ z = cc in subst Small f h.small

        fits : (y : ℤ) → Small y → SFits w128 y
        fits (pos n) p = record { sfits = omega arith }
        fits (negsuc n) p = record { sfits = omega arith }

        -- the number is passed on by its bits
        by_bits : to_z w128 (of_z w128 z) ≡ z
        by_bits = to_z-of_z (fits z (small k.reading k.gives (subst (Sound line at) (sym next_is) (number_sound line at))))

        passed : {o : Option A} → field (to_z w128 (of_z w128 z)) ≡ o → item_of field (number_at line at) ≡ o
        passed f = item ∙ (ap field (sym by_bits) ∙ f)

        pub no_item : field (to_z w128 (of_z w128 z)) ≡ None → ReadInto (items field line) old out None
        no_item f = faults (passed f)

        pub last_item : (x : A) → field (to_z w128 (of_z w128 z)) ≡ Some x → count < length out → length line < after.at → ReadInto (items field line) old (set out count x) (Some (count + 1))
        last_item x f p q =
            let (far, near) = number_end field line at x (number_at line at) (number_sound line at) (passed f) in
            ends x (end_of (number_at line at)) p (passed f) refl (omega (arith, place))

        pub next_item : (x : A) → field (to_z w128 (of_z w128 z)) ≡ Some x → count < length out → after.at ≤ length line → Going field line old (set out count x) after.at (count + 1)
        next_item x f p q =
            subst (λ (n : ℕ). Going field line old (set out count x) n (count + 1)) (sym (place ∙ sym (add-one (end_of (number_at line at)))))
            (goes x (end_of (number_at line at)) p (passed f) refl (λ h. omega (arith, place, h)))

-- ---- an empty log line, and another
pub log_empty : (line : List ℕ) (old : List ℕ) → length line ≡ 0 → ReadInto (log_items line) old old (Some 0)
unfolding log_items accepted
log_empty [] old p = record { answer = rw (le-leb 0 (length old) (omega arith)); leaves = rw take-nil }
log_empty (b ∷ bs) old p = absurd (omega arith)

pub log_other : (line old out : List ℕ) (r : Option ℕ) → 0 < length line → ReadInto (items action_of line) old out r → ReadInto (log_items line) old out r
unfolding log_items
log_other [] old out r p h = absurd (omega arith)
log_other (b ∷ bs) old out r p h = h
