-- What an update is worth, from where its entry goes.
use mathlib.Core.Path.{◌≡◌, refl, sym, ◌∙◌, ap, subst, subst⁻¹}
use mathlib.Core.Bool.{Bool, true, false, cond}
use mathlib.Core.Option.{Option, none, some}
use mathlib.Core.List.{List, [], ◌∷◌, ◌++◌, append-nil}
use Prim.Native.Nat.{ℕ, ◌+◌, ◌-◌, ◌≤◌, ◌<◌}
use native.Mathlib.Omega.{arith}
use lib.Dec.{T, leb, lit<}
use lib.IntN.{ℤ, pos, nat_abs}
use lib.ListN.{length, take, drop, length-append, length-take, length-drop}
use Rattle.minuska.specs.Basics.{◌>>=◌, provided, same_whole}
use Rattle.minuska.specs.Term.{error, Term, cons, single, leaf, as_whole}
use Rattle.minuska.specs.Dictionary.{Entries, max_entries, put, entry_terms, dictionary_term}
use Rattle.minuska.specs.Word.{datum_word, encode}
use Rattle.minuska.specs.Function.{out_of_range, as_dictionary, or_wrong_kind, kept, interpret}
use Rattle.minuska.proofs.Tests.{same_whole_lem}
use Rattle.minuska.specs.Bridge.Place.{Stands}
use Rattle.minuska.proofs.Bridge.PlaceLaw.{stands_whole}
use Rattle.std.specs.Prelude as S
use Rattle.term.specs.declared.Span.{Span}
use borrow.Author.Tests.{le-leb, lt-leb}
use mir.Syntax.{w64}
use mir.Val.{SFits, to_z, of_z}
use Rattle.value.specs.Root.{ValueIn, RootIs}
use Rattle.minuska.specs.Rule.{updating}
use Rattle.value.specs.Search.{EntriesAt, EntriesIn, SearchIs}
use Rattle.value.specs.Update.{placed, PlanFits, plan_words, PlanContract}
use Rattle.value.specs.Value.{value_words, Within, size_of, IsValue}
use Rattle.value.specs.declared.Value.{Value}
use Rattle.value.specs.declared.Value.TheVariants.{Table, Configuration, Computed}
use Rattle.value.specs.declared.builtin.Root.{Root}
use Rattle.value.specs.declared.update.Plan.{Plan}
use Rattle.value.proofs.SignedLaw.{abs_back}
use Rattle.value.proofs.BuiltinLaw.{tag_is}
use Rattle.value.proofs.EntriesLaw.{no_dictionary, DictionaryOf, dictionary_of}
use Rattle.value.proofs.SearchLaw.{Slot, has_slot, lacks_slot}
use Rattle.value.proofs.LookupLaw.{key_seen}
use Rattle.value.proofs.WordsLaw.{size_is}

-- a term has two words or more
pub two_at_least : (t : Term) → 2 ≤ length (encode (single t))
two_at_least t = omega arith

-- ---- an update's value, from its arguments' kinds
abbrev updated : Term → Term → Term → Term
updated s t v = interpret updating (cons s (cons t (single v)))

abbrev of_kinds : Option Entries → Option ℤ → Term → Term
of_kinds o p v = or_wrong_kind (o >>= λ es. p >>= λ k. some (kept (put k v es)))

no_key : (s t v : Term) → as_whole t.label ≡ none → updated s t v ≡ leaf error
no_key s t v e = ap (λ (p : Option ℤ). of_kinds (as_dictionary s) p v) e ∙ go (as_dictionary s)
  where
    go : (o : Option Entries) → of_kinds o none v ≡ leaf error
    go none = refl
    go (some es) = refl

no_entries : (s t v : Term) → as_dictionary s ≡ none → updated s t v ≡ leaf error
no_entries s t v e = ap (λ (o : Option Entries). of_kinds o (as_whole t.label) v) e

at_key : (s t v : Term) (es : Entries) (k : ℤ) → as_dictionary s ≡ some es → as_whole t.label ≡ some k → updated s t v ≡ kept (put k v es)
at_key s t v es k e f = ap (λ (o : Option Entries). of_kinds o (as_whole t.label) v) e ∙ ap (λ (p : Option ℤ). of_kinds (some es) p v) f

-- a sixty-fifth key aside, the words of a dictionary
kept_words : (xs : Entries) (n : ℕ) (ws : List ℤ) → length xs ≡ n → encode (entry_terms xs) ≡ ws → encode (single (kept xs)) ≡ cond (leb n max_entries) (pos 5 ∷ pos n ∷ ws) (pos 0 ∷ pos 0 ∷ [])
kept_words xs n ws e q = ap (λ (m : ℕ). encode (single (cond (leb m max_entries) (dictionary_term xs) out_of_range))) e ∙ go (leb n max_entries)
  where
    go : (b : Bool) → encode (single (cond b (dictionary_term xs) out_of_range)) ≡ cond b (pos 5 ∷ pos n ∷ ws) (pos 0 ∷ pos 0 ∷ [])
    go true = ap (λ (m : ℕ). pos 5 ∷ pos m ∷ (encode (entry_terms xs) ++ [])) e ∙ ap (λ (y : List ℤ). pos 5 ∷ pos n ∷ y) (append-nil (encode (entry_terms xs)) ∙ q)
    go false = refl

module _ (table config : List ℤ) (d : Value) (r : Root) (root_is : RootIs table config d r) where
  no_dictionary_root : same_whole r.tag (pos 5) ≡ false → (s : Term) → IsValue table config d s → as_dictionary s ≡ none
  no_dictionary_root e s i =
      no_dictionary s.label s.children (λ q. absurd (subst T (sym (ap (λ (z : ℤ). same_whole z (pos 5)) ((root_is.is s i).tag ∙ q)) ∙ e) tt))

  the_dictionary : same_whole r.tag (pos 5) ≡ true → (s : Term) → IsValue table config d s → (n : ℕ) × (datum_word s.label ≡ pos n) × DictionaryOf n s
  the_dictionary e s i = dictionary_of s i.good i.grounded (sym (root_is.is s i).tag ∙ same_whole_lem r.tag (pos 5) (subst⁻¹ T e tt))

-- what the code has read of a key and of a dictionary: their roots, how many entries, and their words behind the dictionary's root
pub record Heads (table config : List ℤ) (d k : Value) (q r : Root) (ws : List ℤ) : Type 0 where
  pub key_is : RootIs table config k q
  pub root_is : RootIs table config d r
  pub whole : same_whole q.tag (pos 2) ≡ true
  pub dictionary : same_whole r.tag (pos 5) ≡ true
  pub n : ℕ
  pub is : r.datum ≡ pos n
  pub few : n ≤ 64
  pub back : nat_abs (to_z w64 (of_z w64 r.datum)) ≡ n
  pub words : ws ≡ drop 2 (value_words table config d)

pub heads : {table config : List ℤ} {d k : Value} {q r : Root} {ws : List ℤ} → RootIs table config k q → RootIs table config d r → ValueIn table config d → ws ≡ drop 2 (value_words table config d) →
    SFits w64 q.tag → SFits w64 r.tag → of_z w64 q.tag ≡ 2 → of_z w64 r.tag ≡ 5 → Heads table config d k q r ws
heads {table} {config} {d} {k} {q} {r} key_is root_is h p f g x y =
    let e = tag_is r.tag 5 g (lit< tt) y in
    let a = the_dictionary table config d r root_is e h.term h.is in
    let b : r.datum ≡ pos a.0 = (root_is.is h.term h.is).datum ∙ a.1 in
    let c = a.2.few in
    record { key_is = key_is; root_is = root_is; whole = tag_is q.tag 2 f (lit< tt) x; dictionary = e; n = a.0; is = b; few = c; back = abs_back r.datum a.0 b (omega arith); words = p }

-- ---- WHAT AN UPDATE IS WORTH, by the roots of its arguments
module _ (table config : List ℤ) (d k : Value) (q : Root) (key_is : RootIs table config k q) where
  pub plan_no_key : same_whole q.tag (pos 2) ≡ false → PlanContract table config d k S.None
  unfolding plan_words
  plan_no_key e =
      record {
        is = λ s t v i j. ap (λ (y : Term). encode (single y)) (no_key s t v (key_seen q t (key_is.is t j) ∙ ap (λ (b : Bool). provided b q.datum) e));
        fits = tt;
      }

  pub plan_no_dictionary : (r : Root) → RootIs table config d r → same_whole r.tag (pos 5) ≡ false → PlanContract table config d k S.None
  unfolding plan_words
  plan_no_dictionary r root_is e =
      record {
        is = λ s t v i j. ap (λ (y : Term). encode (single y)) (no_entries s t v (no_dictionary_root table config d r root_is e s i));
        fits = tt;
      }

module _ {table config : List ℤ} {d k : Value} {q r : Root} {ws : List ℤ} (a : Heads table config d k q r ws) where
  dictionary_is : (s : Term) → IsValue table config d s → DictionaryOf a.n s
  dictionary_is s i =
      let b = the_dictionary table config d r a.root_is a.dictionary s i in
      subst (λ (m : ℕ). DictionaryOf m s) (ap nat_abs (sym ((a.root_is.is s i).datum ∙ b.1) ∙ a.is)) b.2

  -- its entries' words are those behind its root
  words_are : (s : Term) (i : IsValue table config d s) → ws ≡ encode (entry_terms (dictionary_is s i).items)
  words_are s i = a.words ∙ ap (drop 2) (i.words ∙ (dictionary_is s i).words)

  entries_at : (s : Term) (i : IsValue table config d s) → EntriesAt ws 0 a.n (dictionary_is s i).items
  entries_at s i =
      let b = dictionary_is s i in
      record { good = b.good; grounded = b.grounded; count = b.count; stands = subst (λ (xs : List ℤ). Stands ws 0 xs) (words_are s i) (stands_whole ws) }

  pub entries_in : ValueIn table config d → EntriesIn ws 0 a.n
  entries_in h = record { entries = (dictionary_is h.term h.is).items; are = entries_at h.term h.is }

  module _ (from to count : ℕ) (slot : (es : Entries) → EntriesAt ws 0 a.n es → ws ≡ encode (entry_terms es) → Slot ws q.datum es from to count) where
    slot_of : (s : Term) (i : IsValue table config d s) → Slot ws q.datum (dictionary_is s i).items from to count
    slot_of s i = slot _ (entries_at s i) (words_are s i)

    -- a sixty-fifth key aside
    update_words : (s t v : Term) → IsValue table config d s → IsValue table config k t → (b : Bool) → leb count max_entries ≡ b →
        encode (single (updated s t v)) ≡ cond b (pos 5 ∷ pos count ∷ placed ws from to q.datum (encode (single v))) (pos 0 ∷ pos 0 ∷ [])
    update_words s t v i j b e =
        let c = slot_of s i in
        let f = at_key s t v _ q.datum (dictionary_is s i).is (key_seen q t (a.key_is.is t j) ∙ ap (λ (y : Bool). provided y q.datum) a.whole) in
        ap (λ (y : Term). encode (single y)) f ∙
        (kept_words _ count _ (c.many v) (c.words v) ∙ ap (λ (y : Bool). cond y (pos 5 ∷ pos count ∷ placed ws from to q.datum (encode (single v))) (pos 0 ∷ pos 0 ∷ [])) e)

    pub plan_keeps : (h : ValueIn table config d) → count ≤ 64 → PlanContract table config d k (S.Some (record { replaced = record { from = from; to = to }; count = count; key = q.datum }))
    unfolding plan_words
    plan_keeps h l =
        let b = slot_of h.term h.is in
        record {
          is = λ s t v i j. update_words s t v i j true (le-leb count 64 l) ∙ ap (λ (xs : List ℤ). pos 5 ∷ pos count ∷ placed xs from to q.datum (encode (single v))) a.words;
          fits = record { order = b.order; within = subst (λ (xs : List ℤ). to ≤ length xs) a.words b.within; few = omega arith };
        }

    pub plan_full : 64 < count → PlanContract table config d k S.None
    unfolding plan_words
    plan_full l = record { is = λ s t v i j. update_words s t v i j false (lt-leb count 64 l); fits = tt }

-- the slot that a search found
pub found_slot : {ws : List ℤ} {n : ℕ} {key : ℤ} {r : Span} → SearchIs ws 0 n key (S.Ok r) → (es : Entries) → EntriesAt ws 0 n es → ws ≡ encode (entry_terms es) → Slot ws key es r.from r.to n
found_slot {ws} {n} {key} {r} o es a e = subst (λ (m : ℕ). Slot ws key es r.from r.to m) a.count (has_slot e (o.is es a))

pub new_slot : {ws : List ℤ} {n : ℕ} {key : ℤ} {i : ℕ} → SearchIs ws 0 n key (S.Err i) → (es : Entries) → EntriesAt ws 0 n es → ws ≡ encode (entry_terms es) → Slot ws key es i i (n + 1)
new_slot {ws} {n} {key} {i} o es a e = subst (λ (m : ℕ). Slot ws key es i i (m + 1)) a.count (lacks_slot e (o.is es a))

-- ---- how many words a plan says
pub kept_plan : (xs : List ℤ) (p : Plan) (vs : List ℤ) → plan_words xs (S.Some p) vs ≡ (((pos 5 ∷ pos p.count ∷ take p.replaced.from (drop 2 xs)) ++ (pos 2 ∷ p.key ∷ [])) ++ vs) ++ drop p.replaced.to (drop 2 xs)
unfolding plan_words placed
kept_plan xs p vs = refl

pub kept_length : (xs : List ℤ) (p : Plan) (vs : List ℤ) → PlanFits (drop 2 xs) p → length (plan_words xs (S.Some p) vs) ≡ 4 + p.replaced.from + length vs + (length (drop 2 xs) - p.replaced.to)
kept_length xs p vs f =
    let a = ap length (kept_plan xs p vs) in
    let b = length-append (((pos 5 ∷ pos p.count ∷ take p.replaced.from (drop 2 xs)) ++ (pos 2 ∷ p.key ∷ [])) ++ vs) (drop p.replaced.to (drop 2 xs)) in
    let c = length-append ((pos 5 ∷ pos p.count ∷ take p.replaced.from (drop 2 xs)) ++ (pos 2 ∷ p.key ∷ [])) vs in
    let d = length-append (pos 5 ∷ pos p.count ∷ take p.replaced.from (drop 2 xs)) (pos 2 ∷ p.key ∷ []) in
    let g = length-take p.replaced.from (drop 2 xs) in
    let h = length-drop p.replaced.to (drop 2 xs) in
    let i = f.order in
    let j = f.within in
    omega arith

-- a value's size is bounded by the slices'
pub size_small : (table config : List ℤ) (v : Value) → Within table config v → size_of v ≤ 2 + length table + length config
unfolding Within size_of
size_small table config (Table s) w = let a = w.1 in omega arith
size_small table config (Configuration s) w = let a = w.1 in omega arith
size_small table config (Computed r) w = omega arith

pub behind_small : (table config : List ℤ) (d : Value) → ValueIn table config d → length (drop 2 (value_words table config d)) ≤ length table + length config
behind_small table config d h =
    let a = size_is table config d h.is.within in
    let b = size_small table config d h.is.within in
    let c = length-drop 2 (value_words table config d) in
    omega arith
