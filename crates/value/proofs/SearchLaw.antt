-- The search for a key among entries that stand one behind the other: how far it has come, of whatever entries stand there; what is found and what is put, from it.
use mathlib.Core.Path.{◌≡◌, refl, sym, ◌∙◌, ap, ap₂, subst, subst⁻¹}
use mathlib.Core.Bool.{Bool, true, false, cond}
use mathlib.Core.Option.{none, some}
use mathlib.Core.List.{List, [], ◌∷◌, ◌++◌, append_assoc}
use Prim.Native.Nat.{ℕ, suc, ◌+◌, ◌-◌, ◌≤◌, ◌<◌}
use native.Mathlib.Omega.{arith}
use lib.Dec.{T}
use lib.IntN.{ℤ, pos, negsuc}
use lib.ListN.{length, get_or, take, drop, length-append}
use lib.Seq.{drop-drop, take-append_seam, drop-append_seam}
use lib.Signed.{lt_z}
use borrow.Author.Tests.{le-ltb}
use Rattle.std.specs.Prelude as S
use Rattle.minuska.specs.Basics.{same_whole}
use Rattle.minuska.specs.Term.{Label, whole, Forest, nil, Term, cons, single, ground_at, role, is_ground}
use Rattle.minuska.specs.Dictionary.{Entry, Entries, find, put, below, rising, entry_terms}
use Rattle.minuska.specs.Word.{ok, encode}
use Rattle.minuska.specs.Bridge.Place.{Stands, GroundAt, GroundEnds}
use Rattle.minuska.proofs.Tests.{and_right, same_whole_lem, whole_same, true_of}
use Rattle.minuska.proofs.WordLaw.{Okay, okay, okay_all}
use Rattle.minuska.proofs.DictionaryLaw.{entry, find_below}
use Rattle.minuska.proofs.Bridge.AppendedLaw.{first_words, Labels, labels, labels_all}
use Rattle.minuska.proofs.Bridge.PlaceLaw.{Two, two_words, stands_first, stands_second}
use Rattle.minuska.proofs.Bridge.ShapeLaw.{ok_shapely}
use Rattle.term.specs.declared.Span.{Span}
use Rattle.value.specs.Update.{placed}
use Rattle.value.specs.Search.{EntriesAt, EntriesIn, size, Smaller, Has, Lacks, SearchIs}

abbrev ground_label : Label → Bool
ground_label l = ground_at (role l)

-- ---- entries in front of others
pub front_words : (fs es : Entries) → encode (entry_terms (fs ++ es)) ≡ encode (entry_terms fs) ++ encode (entry_terms es)
front_words [] es = refl
front_words (f ∷ fs) es =
    let v = f.value in
    ap (λ (ws : List ℤ). pos 2 ∷ f.key ∷ ws)
    (first_words v.label v.children (entry_terms (fs ++ es)) ∙
    (ap (λ (ws : List ℤ). encode (single v) ++ ws) (front_words fs es) ∙
    (sym (append_assoc (encode (single v)) (encode (entry_terms fs)) (encode (entry_terms es))) ∙
    ap (λ (ws : List ℤ). ws ++ encode (entry_terms es)) (sym (first_words v.label v.children (entry_terms fs))))))

pub front_find : (key : ℤ) (fs es : Entries) → Smaller key fs → find key (fs ++ es) ≡ find key es
front_find key [] es s = refl
front_find key (f ∷ fs) es s = rw s.0.1 (front_find key fs es s.1)

pub front_put : (key : ℤ) (v : Term) (fs es : Entries) → Smaller key fs → put key v (fs ++ es) ≡ fs ++ put key v es
front_put key v [] es s = refl
front_put key v (f ∷ fs) es s = rw (s.0.0, s.0.1) (ap (λ (xs : Entries). f ∷ xs) (front_put key v fs es s.1))

front_rising : (fs es : Entries) → T (rising (fs ++ es)) → T (rising es)
front_rising [] es r = r
front_rising (f ∷ fs) es r = front_rising fs es (and_right (below f.key (fs ++ es)) (rising (fs ++ es)) r)

one_more : (key : ℤ) (fs : Entries) (e : Entry) → Smaller key fs → lt_z key e.key ≡ false → same_whole key e.key ≡ false → Smaller key (fs ++ (e ∷ []))
one_more key [] e s l n = ((l, n), tt)
one_more key (f ∷ fs) e s l n = (s.0, one_more key fs e s.1 l n)

-- ---- how far the search has come: so many entries stand at i, and those in front of them have smaller keys
pub record Come (ws : List ℤ) (at : ℕ) (key : ℤ) (es : Entries) (i n : ℕ) : Type 0 where
  pub front : Entries
  pub left : Entries
  pub all : es ≡ front ++ left
  pub smaller : Smaller key front
  pub good : T (ok (entry_terms left))
  pub grounded : T (is_ground (entry_terms left))
  pub count : length left ≡ n
  pub place : i ≡ at + size front
  pub stands : Stands ws i (encode (entry_terms left))

pub record Searching (ws : List ℤ) (at all : ℕ) (key : ℤ) (i n : ℕ) : Type 0 where
  pub each : (es : Entries) → EntriesAt ws at all es → Come ws at key es i n

pub search_start : {ws : List ℤ} {at n : ℕ} (key : ℤ) (k : ℕ) → k ≡ n → Searching ws at n key at k
search_start key k q = record { each = λ es h. record { front = []; left = es; all = refl; smaller = tt; good = h.good; grounded = h.grounded; count = h.count ∙ sym q; place = omega arith; stands = h.stands } }

-- an entry is left
pub record Next (ws : List ℤ) (at : ℕ) (key : ℤ) (es : Entries) (i n : ℕ) : Type 0 where
  pub front : Entries
  pub entry : Entry
  pub rest : Entries
  pub all : es ≡ front ++ (entry ∷ rest)
  pub smaller : Smaller key front
  pub good : T (ok (entry_terms (entry ∷ rest)))
  pub grounded : T (is_ground (entry_terms (entry ∷ rest)))
  pub count : suc (length rest) ≡ n
  pub place : i ≡ at + size front
  pub stands : Stands ws i (encode (entry_terms (entry ∷ rest)))

module _ {ws : List ℤ} {at : ℕ} {key : ℤ} {es : Entries} {i n : ℕ} where
  next : Come ws at key es i n → 0 < n → Next ws at key es i n
  next c z = go c.left c.all c.good c.grounded c.count c.stands
    where
      go : (xs : Entries) → es ≡ c.front ++ xs → T (ok (entry_terms xs)) → T (is_ground (entry_terms xs)) → length xs ≡ n → Stands ws i (encode (entry_terms xs)) → Next ws at key es i n
      go [] a g h l s = absurd (let f : ⊥ = omega arith in f)
      go (x ∷ xs) a g h l s = record { front = c.front; entry = x; rest = xs; all = a; smaller = c.smaller; good = g; grounded = h; count = l; place = c.place; stands = s }

  none_left : Come ws at key es i n → n ≡ 0 → Lacks at key es i
  none_left c z = go c.left c.all (c.count ∙ z)
    where
      go : (xs : Entries) → es ≡ c.front ++ xs → length xs ≡ 0 → Lacks at key es i
      go [] a l = record { front = c.front; behind = []; all = a; smaller = c.smaller; greater = tt; place = c.place }
      go (x ∷ xs) a l = absurd (let f : ⊥ = omega arith in f)

module _ {ws : List ℤ} {at : ℕ} {key : ℤ} {es : Entries} {i n : ℕ} (o : Next ws at key es i n) where
  abbrev v : Term
  v = o.entry.value

  abbrev others : Forest
  others = entry_terms o.rest

  entry_words : Two ws i (pos 2) o.entry.key
  entry_words = two_words ws i (length (encode (entry_terms (o.entry ∷ o.rest)))) (pos 2) o.entry.key (encode (cons v others)) o.stands.words

  behind_key : Stands ws (i + 2) (encode (single v) ++ encode others)
  behind_key = subst (Stands ws (i + 2)) (first_words v.label v.children others) (stands_second (pos 2 ∷ o.entry.key ∷ []) (encode (cons v others)) o.stands)

  value_good : Okay v.label v.children others
  value_good = okay v.label v.children others (okay (whole o.entry.key) nil (cons v others) o.good).rest

  value_ground : Labels ground_label v.label v.children others
  value_ground = labels ground_label v.label v.children others (labels ground_label (whole o.entry.key) nil (cons v others) o.grounded).rest

  value_at_lem : GroundAt ws (i + 2)
  value_at_lem =
      record {
        term = v;
        shape = ok_shapely (single v) (okay_all v.label v.children nil value_good.allowed value_good.children tt);
        grounded = labels_all ground_label v.label v.children nil value_ground.here value_ground.children tt;
        stands = stands_first (encode (single v)) (encode others) behind_key;
      }

  greater_lacks : lt_z key o.entry.key ≡ true → Lacks at key es i
  greater_lacks e = record { front = o.front; behind = o.entry ∷ o.rest; all = o.all; smaller = o.smaller; greater = subst⁻¹ T e tt; place = o.place }

  module _ (to : ℕ) (g : GroundEnds ws (i + 2) to) where
    value_ends : to ≡ i + 2 + length (encode (single v))
    unfolding value_at_lem
    value_ends = let a = value_at_lem in g.ends v a.shape a.grounded a.stands

    own_size : size (o.entry ∷ []) ≡ 2 + length (encode (single v))
    own_size = omega arith

    same_has : same_whole key o.entry.key ≡ true → Has at key es (record { from = i; to = to })
    same_has e =
        let a = value_ends in
        record { front = o.front; entry = o.entry; behind = o.rest; all = o.all; smaller = o.smaller; same = same_whole_lem key o.entry.key (subst⁻¹ T e tt); from = o.place; to = omega (arith, own_size) }

    smaller_on : lt_z key o.entry.key ≡ false → same_whole key o.entry.key ≡ false → Come ws at key es to (n - 1)
    smaller_on l e =
        let c = o.count in
        let a = value_ends in
        let p = o.place in
        let w : size (o.front ++ (o.entry ∷ [])) ≡ size o.front + size (o.entry ∷ []) = ap length (front_words o.front (o.entry ∷ [])) ∙ length-append (encode (entry_terms o.front)) (encode (entry_terms (o.entry ∷ []))) in
        record {
          front = o.front ++ (o.entry ∷ []);
          left = o.rest;
          all = o.all ∙ sym (append_assoc o.front (o.entry ∷ []) o.rest);
          smaller = one_more key o.front o.entry o.smaller l e;
          good = value_good.rest;
          grounded = value_ground.rest;
          count = omega arith;
          place = omega (arith, own_size);
          stands = subst⁻¹ (λ (j : ℕ). Stands ws j (encode others)) a (stands_second (encode (single v)) (encode others) behind_key);
        }

-- ---- the turns of the search
module _ {ws : List ℤ} {at all : ℕ} {key : ℤ} {i n : ℕ} (c : Searching ws at all key i n) where
  pub search_end : n ≡ 0 → SearchIs ws at all key (S.Err i)
  search_end z = record { is = λ es h. none_left (c.each es h) z }

  module _ (r : EntriesIn ws at all) (z : 0 < n) where
    here : Next ws at key r.entries i n
    here = next (c.each r.entries r.are) z

    pub search_room : i + 2 ≤ length ws
    search_room = (entry_words here).room

    pub search_value : GroundAt ws (i + 2)
    search_value = value_at_lem here

    module _ (k : ℤ) (w : k ≡ get_or ws (i + 1) (pos 0)) where
      key_is : (es : Entries) (h : EntriesAt ws at all es) → k ≡ (next (c.each es h) z).entry.key
      key_is es h = w ∙ (entry_words (next (c.each es h) z)).second

      pub search_stop : lt_z key k ≡ true → SearchIs ws at all key (S.Err i)
      search_stop e = record { is = λ es h. greater_lacks (next (c.each es h) z) (subst (λ (x : ℤ). lt_z key x ≡ true) (key_is es h) e) }

      module _ (to : ℕ) (g : GroundEnds ws (i + 2) to) where
        pub search_here : same_whole key k ≡ true → SearchIs ws at all key (S.Ok (record { from = i; to = to }))
        search_here e = record { is = λ es h. same_has (next (c.each es h) z) to g (subst (λ (x : ℤ). same_whole key x ≡ true) (key_is es h) e) }

        pub search_on : lt_z key k ≡ false → same_whole key k ≡ false → Searching ws at all key to (n - 1)
        search_on l e =
            record {
              each = λ es h.
                  smaller_on (next (c.each es h) z) to g (subst (λ (x : ℤ). lt_z key x ≡ false) (key_is es h) l) (subst (λ (x : ℤ). same_whole key x ≡ false) (key_is es h) e);
            }

-- ---- WHAT IS FOUND
same_self : (k : ℤ) → same_whole k k ≡ true
same_self k = true_of (same_whole k k) (whole_same k)

lt_self : (k : ℤ) → lt_z k k ≡ false
lt_self (pos n) = le-ltb n n (omega arith)
lt_self (negsuc n) = le-ltb n n (omega arith)

find_first : (k : ℤ) (e : Entry) (es : Entries) → k ≡ e.key → find k (e ∷ es) ≡ some e.value
find_first k e es q = ap (λ (b : Bool). cond b (some e.value) (find k es)) (subst (λ (z : ℤ). same_whole k z ≡ true) q (same_self k))

put_first : (k : ℤ) (v : Term) (e : Entry) (es : Entries) → k ≡ e.key → put k v (e ∷ es) ≡ entry k v ∷ es
put_first k v e es q = rw (subst (λ (z : ℤ). lt_z k z ≡ false) q (lt_self k), subst (λ (z : ℤ). same_whole k z ≡ true) q (same_self k))

put_below : (k : ℤ) (v : Term) (es : Entries) → T (below k es) → put k v es ≡ entry k v ∷ es
put_below k v [] t = refl
put_below k v (e ∷ es) t = rw (true_of (lt_z k e.key) t)

module _ {at : ℕ} {key : ℤ} {es : Entries} where
  pub has_find : {r : Span} (h : Has at key es r) → find key es ≡ some h.entry.value
  has_find h = ap (find key) h.all ∙ (front_find key h.front (h.entry ∷ h.behind) h.smaller ∙ find_first key h.entry h.behind h.same)

  pub lacks_find : {r : ℕ} (h : Lacks at key es r) → T (rising es) → find key es ≡ none
  lacks_find h r =
      ap (find key) h.all ∙ (front_find key h.front h.behind h.smaller ∙ find_below key h.behind (front_rising h.front h.behind (subst (λ (xs : Entries). T (rising xs)) h.all r)) h.greater)

  -- where the value stands
  pub has_value : {ws : List ℤ} {r : Span} (h : Has at key es r) → Stands ws at (encode (entry_terms es)) → Stands ws (r.from + 2) (encode (single h.entry.value))
  has_value {ws} {r} h s =
      let v = h.entry.value in
      let a : Stands ws at (encode (entry_terms h.front) ++ encode (entry_terms (h.entry ∷ h.behind))) = subst (Stands ws at) (ap (λ (xs : Entries). encode (entry_terms xs)) h.all ∙ front_words h.front (h.entry ∷ h.behind)) s in
      let b = subst⁻¹ (λ (i : ℕ). Stands ws i (encode (entry_terms (h.entry ∷ h.behind)))) h.from (stands_second (encode (entry_terms h.front)) (encode (entry_terms (h.entry ∷ h.behind))) a) in
      let c = stands_second (pos 2 ∷ h.entry.key ∷ []) (encode (cons v (entry_terms h.behind))) b in
      stands_first (encode (single v)) (encode (entry_terms h.behind)) (subst (Stands ws (r.from + 2)) (first_words v.label v.children (entry_terms h.behind)) c)

  pub has_end : {r : Span} (h : Has at key es r) → r.to ≡ r.from + 2 + length (encode (single h.entry.value))
  has_end h = let a = h.to in omega arith

-- ---- WHAT IS PUT, among entries whose words are these
around : (us vs bs : List ℤ) (k : ℤ) → us ++ (pos 2 ∷ k ∷ (vs ++ bs)) ≡ ((us ++ (pos 2 ∷ k ∷ [])) ++ vs) ++ bs
around us vs bs k = sym (append_assoc us (pos 2 ∷ k ∷ []) (vs ++ bs)) ∙ sym (append_assoc (us ++ (pos 2 ∷ k ∷ [])) vs bs)

pub record Slot (ws : List ℤ) (key : ℤ) (es : Entries) (from to count : ℕ) : Type 0 where
  pub words : (v : Term) → encode (entry_terms (put key v es)) ≡ placed ws from to key (encode (single v))
  pub many : (v : Term) → length (put key v es) ≡ count
  pub order : from ≤ to
  pub within : to ≤ length ws

module _ (ws : List ℤ) (key : ℤ) (es front mid behind : Entries) (e : ws ≡ encode (entry_terms es)) (all : es ≡ front ++ (mid ++ behind)) (p : (v : Term) → put key v es ≡ front ++ (entry key v ∷ behind)) (from to : ℕ) (q : from ≡ size front) (r : to ≡ from + size mid) where
  words_are : ws ≡ encode (entry_terms front) ++ (encode (entry_terms mid) ++ encode (entry_terms behind))
  words_are =
      e ∙ (ap (λ (xs : Entries). encode (entry_terms xs)) all ∙ (front_words front (mid ++ behind) ∙ ap (λ (xs : List ℤ). encode (entry_terms front) ++ xs) (front_words mid behind)))

  taken : take from ws ≡ encode (entry_terms front)
  taken = rw (q, words_are) (take-append_seam (encode (entry_terms front)) (encode (entry_terms mid) ++ encode (entry_terms behind)))

  dropped : drop to ws ≡ encode (entry_terms behind)
  dropped =
      rw (r, q) (sym (drop-drop (size mid) (size front) ws) ∙
      (ap (λ (xs : List ℤ). drop (size mid) (drop (size front) xs)) words_are ∙
      (ap (drop (size mid)) (drop-append_seam (encode (entry_terms front)) (encode (entry_terms mid) ++ encode (entry_terms behind))) ∙
      drop-append_seam (encode (entry_terms mid)) (encode (entry_terms behind)))))

  slot_is : (count : ℕ) → count ≡ length front + suc (length behind) → Slot ws key es from to count
  unfolding placed
  slot_is count n =
      let a = ap length words_are in
      let b = length-append (encode (entry_terms front)) (encode (entry_terms mid) ++ encode (entry_terms behind)) in
      let c = length-append (encode (entry_terms mid)) (encode (entry_terms behind)) in
      record {
        words = λ v.
            ap (λ (xs : Entries). encode (entry_terms xs)) (p v) ∙
            (front_words front (entry key v ∷ behind) ∙
            (ap (λ (xs : List ℤ). encode (entry_terms front) ++ (pos 2 ∷ key ∷ xs)) (first_words v.label v.children (entry_terms behind)) ∙
            (around (encode (entry_terms front)) (encode (single v)) (encode (entry_terms behind)) key ∙
            ap₂ (λ (us bs : List ℤ). ((us ++ (pos 2 ∷ key ∷ [])) ++ encode (single v)) ++ bs) (sym taken) (sym dropped))));
        many = λ v. ap length (p v) ∙ (length-append front (entry key v ∷ behind) ∙ sym n);
        order = omega arith;
        within = omega arith;
      }

module _ {ws : List ℤ} {key : ℤ} {es : Entries} (e : ws ≡ encode (entry_terms es)) where
  pub has_slot : {r : Span} → Has 0 key es r → Slot ws key es r.from r.to (length es)
  has_slot {r} h =
      slot_is ws key es h.front (h.entry ∷ []) h.behind e h.all
      (λ v. ap (put key v) h.all ∙ (front_put key v h.front (h.entry ∷ h.behind) h.smaller ∙ ap (λ (xs : Entries). h.front ++ xs) (put_first key v h.entry h.behind h.same))) r.from r.to (let a = h.from in omega arith) h.to
      (length es) (ap length h.all ∙ length-append h.front (h.entry ∷ h.behind))

  pub lacks_slot : {i : ℕ} → Lacks 0 key es i → Slot ws key es i i (length es + 1)
  lacks_slot {i} h =
      slot_is ws key es h.front [] h.behind e h.all
      (λ v. ap (put key v) h.all ∙ (front_put key v h.front h.behind h.smaller ∙ ap (λ (xs : Entries). h.front ++ xs) (put_below key v h.behind h.greater))) i i (let a = h.place in omega arith) (omega arith)
      (length es + 1) (let a = ap length h.all in let b = length-append h.front h.behind in omega arith)
