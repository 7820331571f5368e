-- The value of a lookup, from what was found.
use mathlib.Core.Path.{◌≡◌, refl, sym, ◌∙◌, ap, subst, subst⁻¹}
use mathlib.Core.Bool.{Bool, true, false}
use mathlib.Core.Option.{Option, none, some}
use mathlib.Core.List.{List, [], ◌∷◌, ◌++◌}
use Prim.Native.Nat.{ℕ, ◌+◌, ◌-◌, ◌≤◌}
use native.Mathlib.Omega.{arith}
use lib.Dec.{T}
use lib.IntN.{ℤ, pos, nat_abs}
use lib.ListN.{length, get_or, take, drop, length-take, length-drop}
use Rattle.minuska.specs.Basics.{◌>>=◌, provided, same_whole}
use Rattle.minuska.specs.Term.{Label, error, truth, whole, variable, call, symbol, dictionary, Forest, nil, node, Term, cons, single, leaf, term_count, is_ground, as_whole}
use Rattle.minuska.specs.Dictionary.{Entries, find, entry_terms}
use Rattle.minuska.specs.Word.{tag_word, datum_word, ok, encode}
use Rattle.minuska.specs.Function.{as_dictionary, or_wrong_kind, or_absent, interpret}
use Rattle.minuska.specs.Bridge.Place.{part, Stands}
use Rattle.minuska.proofs.Tests.{and_left, and_right, and_both}
use Rattle.minuska.proofs.KeepLaw.{Fine, fine_apply, fine_cons}
use Rattle.minuska.proofs.WordLaw.{childless}
use Rattle.minuska.specs.Bridge.Walk.{looking}
use Rattle.minuska.proofs.Bridge.PlaceLaw.{Two, two_words, stands_second}
use Rattle.std.specs.Prelude as S
use Rattle.term.specs.declared.Span.{Span}
use Rattle.value.specs.Builtin.{root_of}
use Rattle.value.specs.Lookup.{TermHere, TermIn, value_of, FoundIs, LookupContract}
use Rattle.value.specs.Search.{EntriesAt, EntriesIn, SearchIs}
use Rattle.value.specs.Root.{Head, RootIs, PartOrError}
use Rattle.value.specs.Value.{value_words, Within, IsValue}
use Rattle.value.specs.declared.Value.{Value}
use Rattle.value.specs.declared.Value.TheVariants.{Table, Configuration, Computed}
use Rattle.value.specs.declared.builtin.Root.{Root}
use mir.Syntax.{w64}
use mir.Val.{to_z, of_z}
use Rattle.value.proofs.SignedLaw.{abs_back}
use Rattle.value.proofs.BuiltinLaw.{whole_seen}
use Rattle.value.proofs.RootLaw.{label_is}
use Rattle.value.proofs.EntriesLaw.{no_dictionary, DictionaryOf, dictionary_of}
use Rattle.value.proofs.SearchLaw.{has_find, lacks_find, has_value, has_end}

-- ---- a lookup's value, from the key and what is at it
abbrev looked : Term → Term → Term
looked s t = interpret looking (cons s (single t))

no_key : (s t : Term) → as_whole t.label ≡ none → looked s t ≡ leaf error
no_key s t e = ap (λ (k : Option ℤ). or_wrong_kind (as_dictionary s >>= λ es. k >>= λ k. some (or_absent (find k es)))) e ∙ go (as_dictionary s)
  where
    go : (o : Option Entries) → or_wrong_kind (o >>= λ es. none) ≡ leaf error
    go none = refl
    go (some es) = refl

at_key : (s t : Term) (k : ℤ) → as_whole t.label ≡ some k → looked s t ≡ or_absent (value_of k s)
at_key s t k e = ap (λ (k : Option ℤ). or_wrong_kind (as_dictionary s >>= λ es. k >>= λ k. some (or_absent (find k es)))) e ∙ go (as_dictionary s)
  where
    go : (o : Option Entries) → or_wrong_kind (o >>= λ es. some (or_absent (find k es))) ≡ or_absent (o >>= find k)
    go none = refl
    go (some es) = refl

-- the key's root says which
pub key_seen : (r : Root) (t : Term) → Head r t.label (term_count t.children) → as_whole t.label ≡ provided (same_whole r.tag (pos 2)) r.datum
key_seen r t h = ap as_whole (sym (label_is r t.label (term_count t.children) h)) ∙ whole_seen r.tag r.datum

-- one node has no entries
leaf_none : (k : ℤ) (l : Label) → value_of k (leaf l) ≡ none
leaf_none k error = refl
leaf_none k (truth b) = refl
leaf_none k (whole z) = refl
leaf_none k (variable v) = refl
leaf_none k (call c) = refl
leaf_none k (symbol s) = refl
leaf_none k (dictionary n) = refl

-- a part is what stands where it starts
part_stands : (ws : List ℤ) (from to : ℕ) (xs : List ℤ) → part ws from to ≡ xs → from ≤ to → to ≤ length ws → Stands ws from xs
part_stands ws from to xs e a b =
    let c = length-take (to - from) (drop from ws) in
    let d = length-drop from ws in
    let f : length (part ws from to) ≡ length xs = ap length e in
    let n : length xs ≡ to - from = omega arith in
    record { words = ap (λ (k : ℕ). take k (drop from ws)) n ∙ e; within = omega arith }

-- ---- what is found in the term that stands at a place
here_words : (ws : List ℤ) (at : ℕ) (t : Term) → TermHere ws at t → Two ws at (tag_word t.label (term_count t.children)) (datum_word t.label)
here_words ws at t h = two_words ws at (length (encode (single t))) (tag_word t.label (term_count t.children)) (datum_word t.label) (encode t.children ++ []) h.stands.words

-- how many entries, as the code reads it
pub record Counted (ws : List ℤ) (at : ℕ) : Type 0 where
  pub n : ℕ
  pub is : get_or ws (at + 1) (pos 0) ≡ pos n
  pub back : nat_abs (to_z w64 (of_z w64 (get_or ws (at + 1) (pos 0)))) ≡ n

module _ {ws : List ℤ} {at : ℕ} where
  pub find_other : (key : ℤ) → (get_or ws at (pos 0) ≡ pos 5 → ⊥) → FoundIs ws at key S.None
  find_other key f = record { is = λ t h. ap (λ (o : Option Entries). o >>= find key) (no_dictionary t.label t.children (λ e. f ((here_words ws at t h).first ∙ e))) }

  module _ (e : get_or ws at (pos 0) ≡ pos 5) where
    dictionary_here : (t : Term) → TermHere ws at t → (n : ℕ) × (get_or ws (at + 1) (pos 0) ≡ pos n) × DictionaryOf n t
    dictionary_here t h =
        let w = here_words ws at t h in
        let d = dictionary_of t h.good h.grounded (sym w.first ∙ e) in
        (d.0, w.second ∙ d.1, d.2)

    entries_at : (n : ℕ) → get_or ws (at + 1) (pos 0) ≡ pos n → (t : Term) → TermHere ws at t → (d : DictionaryOf n t) × EntriesAt ws (at + 2) n d.items
    entries_at n q t h =
        let d = dictionary_here t h in
        let k : d.0 ≡ n = ap nat_abs (sym d.1 ∙ q) in
        let c : DictionaryOf n t = subst (λ (m : ℕ). DictionaryOf m t) k d.2 in (
          c,
          record {
            good = c.good;
            grounded = c.grounded;
            count = c.count;
            stands = stands_second (pos 5 ∷ pos n ∷ []) (encode (entry_terms c.items)) (subst (Stands ws at) c.words h.stands);
          },
        )

    pub counted : TermIn ws at → Counted ws at
    counted h =
        let d = dictionary_here h.term h.here in
        let f = d.2.few in
        record { n = d.0; is = d.1; back = abs_back _ d.0 d.1 (omega arith) }

    module _ (n : ℕ) (q : get_or ws (at + 1) (pos 0) ≡ pos n) where
      pub entries_in : TermIn ws at → EntriesIn ws (at + 2) n
      entries_in h = let a = entries_at n q h.term h.here in record { entries = a.0.items; are = a.1 }

      module _ (key : ℤ) where
        found_by : (t : Term) → TermHere ws at t → (d : DictionaryOf n t) → value_of key t ≡ find key d.items
        found_by t h d = ap (λ (o : Option Entries). o >>= find key) d.is

        pub find_absent : (i : ℕ) → SearchIs ws (at + 2) n key (S.Err i) → FoundIs ws at key S.None
        find_absent i s = record { is = λ t h. let a = entries_at n q t h in found_by t h a.0 ∙ lacks_find (s.is a.0.items a.1) a.0.rise }

        pub find_here : (r : Span) → SearchIs ws (at + 2) n key (S.Ok r) → FoundIs ws at key (S.Some (record { from = r.from + 2; to = r.to }))
        find_here r s =
            record {
              is = λ t h.
                  let a = entries_at n q t h in
                  let b = s.is a.0.items a.1 in
                  record { term = b.entry.value; is = found_by t h a.0 ∙ has_find b; stands = has_value b a.1.stands; ends = has_end b };
            }

        pub find_room : TermIn ws at → (r : Span) → SearchIs ws (at + 2) n key (S.Ok r) → r.from + 2 ≤ length ws
        find_room h r s =
            let a = entries_at n q h.term h.here in
            let b = s.is a.0.items a.1 in
            let c = (has_value b a.1.stands).within in
            omega arith

-- ---- as a value
module _ (table config : List ℤ) where
  pub table_here : (p : Span) (t : Term) → IsValue table config (Table p) t → TermHere table p.from t
  unfolding value_words Within
  table_here p t i = record { good = i.good; grounded = i.grounded; stands = part_stands table p.from p.to (encode (single t)) i.words i.within.0 i.within.1 }

  pub configuration_here : (p : Span) (t : Term) → IsValue table config (Configuration p) t → TermHere config p.from t
  unfolding value_words Within
  configuration_here p t i = record { good = i.good; grounded = i.grounded; stands = part_stands config p.from p.to (encode (single t)) i.words i.within.0 i.within.1 }

  computed_leaf : (r : Root) (t : Term) → IsValue table config (Computed r) t → t ≡ leaf t.label
  unfolding value_words
  computed_leaf r t i = ap (λ (f : Forest). record { label = t.label; children = f }) (childless t.children (few t.children (ap length i.words)))
    where
      few : (cs : Forest) → 2 ≡ length (encode (node t.label cs nil)) → term_count cs ≡ 0
      few nil e = refl
      few (node l ls ss) e = absurd (let z : ⊥ = omega arith in z)

  abbrev pub wrong : Value
  wrong = Computed (root_of error)

  error_value : IsValue table config wrong (leaf error)
  unfolding value_words Within root_of
  error_value = record { good = tt; grounded = tt; words = refl; within = tt }

  fine_looked : (s t : Term) (d k : Value) → IsValue table config d s → IsValue table config k t → Fine (looked s t)
  fine_looked s t d k i j =
      fine_apply looking (cons s (single t))
      (fine_cons s (single t) (and_both (ok (single s)) (is_ground (single s)) i.good i.grounded) (and_both (ok (single t)) (is_ground (single t)) j.good j.grounded))

  module _ (d k : Value) (r : Root) (root_is : RootIs table config k r) where
    -- a key of another kind
    pub lookup_no_key : same_whole r.tag (pos 2) ≡ false → LookupContract table config d k wrong
    lookup_no_key e =
        record {
          is = λ s t i j. subst⁻¹ (IsValue table config wrong) (no_key s t (key_seen r t (root_is.is t j) ∙ ap (λ (b : Bool). provided b r.datum) e)) error_value;
          place = refl;
        }

    module _ (e : same_whole r.tag (pos 2) ≡ true) where
      keyed : (s t : Term) → IsValue table config k t → looked s t ≡ or_absent (value_of r.datum s)
      keyed s t j = at_key s t r.datum (key_seen r t (root_is.is t j) ∙ ap (λ (b : Bool). provided b r.datum) e)

      absent_value : (s t : Term) → IsValue table config k t → value_of r.datum s ≡ none → IsValue table config wrong (looked s t)
      absent_value s t j q = subst⁻¹ (IsValue table config wrong) (keyed s t j ∙ ap or_absent q) error_value

      -- a computed dictionary has no entries
      pub lookup_computed : (x : Root) → d ≡ Computed x → LookupContract table config d k wrong
      lookup_computed x q =
          record {
            is = λ s t i j. absent_value s t j (ap (value_of r.datum) (computed_leaf x s (subst (λ (v : Value). IsValue table config v s) q i)) ∙ leaf_none r.datum s.label);
            place = refl;
          }

      -- a part of the table, or of the configuration: `made` of what was found
      module _ (ws : List ℤ) (made : Span → Value) (placed : (p : Span) → PartOrError (made p)) (p : Span) (q : d ≡ made p)
          (here : (s : Term) → IsValue table config (made p) s → TermHere ws p.from s)
          (valued : (t : Term) (from to : ℕ) → T (ok (single t)) → T (is_ground (single t)) → Stands ws from (encode (single t)) → to ≡ from + length (encode (single t)) → IsValue table config (made (record { from = from; to = to })) t) where
        abbrev looked_at : (s : Term) → IsValue table config d s → TermHere ws p.from s
        looked_at s i = here s (subst (λ (v : Value). IsValue table config v s) q i)

        lookup_none : FoundIs ws p.from r.datum S.None → LookupContract table config d k wrong
        lookup_none f = record { is = λ s t i j. absent_value s t j (f.is s (looked_at s i)); place = refl }

        lookup_some : (o : Span) → FoundIs ws p.from r.datum (S.Some o) → LookupContract table config d k (made o)
        lookup_some o f =
            record {
              is = λ s t i j.
                  let h = f.is s (looked_at s i) in
                  let e : looked s t ≡ h.term = keyed s t j ∙ ap or_absent h.is in
                  let x = subst Fine e (fine_looked s t d k i j) in
                  subst⁻¹ (IsValue table config (made o)) e
                  (valued h.term o.from o.to (and_left (ok (single h.term)) (is_ground (single h.term)) x) (and_right (ok (single h.term)) (is_ground (single h.term)) x) h.stands h.ends);
              place = placed o;
            }

        pub lookup_made : (o : S.Option Span) → FoundIs ws p.from r.datum o → (v : Value) → S.MatchOption o (v ≡ wrong) (λ x. v ≡ made x) → LookupContract table config d k v
        lookup_made S.None f v m = subst⁻¹ (LookupContract table config d k) m (lookup_none f)
        lookup_made (S.Some o) f v m = subst⁻¹ (LookupContract table config d k) m (lookup_some o f)
