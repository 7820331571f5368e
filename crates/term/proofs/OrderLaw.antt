-- Dictionaries in order: terms without dictionaries are; one entry of a dictionary; one node of a walk over terms.
use mathlib.Core.Path.{◌≡◌, refl, sym, ◌∙◌, ap, subst, subst⁻¹}
use mathlib.Core.Bool.{Bool, true, false, ◌&&◌}
use mathlib.Core.Option.{Option, none, some}
use mathlib.Core.List.{List, [], ◌∷◌, ◌++◌}
use Prim.Native.Nat.{ℕ, suc, ◌+◌, ◌-◌, ◌*◌, ◌≤◌, ◌<◌}
use native.Mathlib.Omega.{arith}
use lib.Dec.{T, eqb→eq}
use lib.IntN.{ℤ, pos, nat_abs}
use lib.ListN.{length, get_or, get_or-append}
use lib.Seq.{get_or-append-add}
use lib.Signed.{lt_z, non_neg}
use Rattle.minuska.proofs.Bridge.AppendedLaw.{first_words, Labels, labels, labels_all, ordered_node, appended_shapely, appended_closed, Closed, closed_parts, below_other}
use Rattle.minuska.proofs.Bridge.PlaceLaw.{Two, two_words, stands_word, stands_first, stands_second}
use Rattle.minuska.proofs.Bridge.ShapeLaw.{Shaped, shaped, shaped_all}
use Rattle.minuska.proofs.Bridge.UniqueLaw.{count_unique, end_unique}
use Rattle.minuska.proofs.NodeLaw.{DictionaryNode, dictionary_tag_lem}
use Rattle.minuska.proofs.Tests.{and_both, true_of}
use Rattle.minuska.proofs.WordLaw.{appended, encode_appended, encode_length, childless}
use Rattle.minuska.specs.Basics.{◌>>=◌}
use Rattle.minuska.specs.Bridge.Place.{Stands, GroundAt, GroundEnds}
use Rattle.minuska.specs.Bridge.Shape.{ordered, shut_at}
use Rattle.minuska.specs.Computed.Read.{dictionary_tag}
use Rattle.minuska.specs.Dictionary.{Entries, below, rising, entries, all_rise}
use Rattle.minuska.specs.Term.{Label, error, truth, whole, variable, call, symbol, dictionary, Forest, nil, node, Term, single, term_count, nodes, is_ground, as_whole}
use Rattle.minuska.specs.Word.{tag_word, datum_word, ok_head, ok_below, encode}
use Rattle.term.specs.Order.{FillsTo, Filled, InOrder, EntriesOf, EntriesAt, Rises}
use Rattle.term.specs.TermEnd.{ground_label, NoneMet}

-- ---- terms without dictionaries are in order
module _ (l : Label) (cs ss : Forest) where
  in_children : (j : ℕ) → j < nodes cs → get_or (encode (node l cs ss)) (2 * suc j) (pos 0) ≡ get_or (encode cs) (2 * j) (pos 0)
  in_children j h =
      let e : 2 * suc j ≡ suc (suc (2 * j)) = omega arith in
      let n = encode_length cs in
      ap (λ (i : ℕ). get_or (encode (node l cs ss)) i (pos 0)) e ∙ get_or-append (encode cs) (encode ss) (pos 0) (2 * j) (omega arith)

  in_others : (j : ℕ) → get_or (encode (node l cs ss)) (2 * suc (nodes cs + j)) (pos 0) ≡ get_or (encode ss) (2 * j) (pos 0)
  in_others j =
      let n = encode_length cs in
      let e : 2 * suc (nodes cs + j) ≡ suc (suc (length (encode cs) + 2 * j)) = omega arith in
      ap (λ (i : ℕ). get_or (encode (node l cs ss)) i (pos 0)) e ∙ get_or-append-add (encode cs) (encode ss) (2 * j) (pos 0)

free : (f : Forest) → ((j : ℕ) → j < nodes f → get_or (encode f) (2 * j) (pos 0) ≡ pos dictionary_tag → ⊥) → T (ordered f)
free nil h = tt
free (node l cs ss) h =
    let o : ok_below l cs ≡ true = below_other l cs (λ n e. h 0 (omega arith) (ap (λ (m : Label). tag_word m (term_count cs)) e)) in
    let a = free cs (λ j k e. h (suc j) (omega arith) (in_children l cs ss j k ∙ e)) in
    let b = free ss (λ j k e. h (suc (nodes cs + j)) (omega arith) (in_others l cs ss j ∙ e)) in
    and_both (ok_below l cs && ordered cs) (ordered ss) (and_both (ok_below l cs) (ordered cs) (subst⁻¹ T o tt) a) b

pub none_ordered : {ws : List ℤ} {from to : ℕ} → NoneMet ws from to → (f : Forest) → Stands ws from (encode f) → to ≡ from + length (encode f) → T (ordered f)
none_ordered n f s e =
    let l = encode_length f in
    let q = n.ends in
    free f (λ j h q. n.none j (omega arith) (stands_word s (2 * j) (pos 0) (omega arith) ∙ q))

-- ---- a key by its word
whole_key : (l : Label) (k : ℕ) → T (ok_head l k) → tag_word l k ≡ pos 2 → (as_whole l ≡ some (datum_word l)) × (k ≡ 0)
whole_key error k x e = absurd (let z : ◌≡◌ {A = ℕ} 0 2 = cc in let f : ⊥ = omega arith in f)
whole_key (truth b) k x e = absurd (let z : ◌≡◌ {A = ℕ} 1 2 = cc in let f : ⊥ = omega arith in f)
whole_key (whole z) k x e = (refl, eqb→eq k 0 x)
whole_key (variable v) k x e = absurd (let z : ◌≡◌ {A = ℕ} 3 2 = cc in let f : ⊥ = omega arith in f)
whole_key (call c) k x e = absurd (let z : ◌≡◌ {A = ℕ} 4 2 = cc in let f : ⊥ = omega arith in f)
whole_key (symbol s) k x e = absurd (let z : 8 + k ≡ 2 = cc in let f : ⊥ = omega arith in f)
whole_key (dictionary n) k x e = absurd (let z : ◌≡◌ {A = ℕ} 5 2 = cc in let f : ⊥ = omega arith in f)

other_key : (l : Label) (k : ℕ) → (tag_word l k ≡ pos 2 → ⊥) → as_whole l ≡ none
other_key error k f = refl
other_key (truth b) k f = refl
other_key (whole z) k f = absurd (f refl)
other_key (variable v) k f = refl
other_key (call c) k f = refl
other_key (symbol s) k f = refl
other_key (dictionary n) k f = refl

-- ---- one entry more: its key is in front of the others', which rise from there
abbrev rise_from : ℤ → Option Entries → Bool
rise_from k none = false
rise_from k (some es) = below k es && rising es

none_rise : (b : Bool) → false ≡ (b && false)
none_rise true = refl
none_rise false = refl

first_rise : (k : ℤ) (v : Term) (o : Option Entries) → all_rise (o >>= λ es. some (record { key = k; value = v } ∷ es)) ≡ rise_from k o
first_rise k v none = refl
first_rise k v (some es) = refl

next_rise : (z k : ℤ) (v : Term) (o : Option Entries) → rise_from z (o >>= λ es. some (record { key = k; value = v } ∷ es)) ≡ (lt_z z k && rise_from k o)
next_rise z k v none = none_rise (lt_z z k)
next_rise z k v (some es) = refl

-- ---- the entries that start at a place, by the first of them
pub record Opened (ws : List ℤ) (at n : ℕ) (f : Forest) : Type 0 where
  pub key : Label
  pub below : Forest
  pub value : Term
  pub rest : Forest
  pub is : f ≡ node key below (node value.label value.children rest)
  pub are : EntriesOf ws at n (node key below (node value.label value.children rest))

pub opened : {ws : List ℤ} {at n : ℕ} (f : Forest) → EntriesOf ws at n f → 0 < n → Opened ws at n f
opened nil h z = absurd (let c = h.count in let f : ⊥ = omega arith in f)
opened (node l ls nil) h z = absurd (let c = h.count in let f : ⊥ = omega arith in f)
opened (node l ls (node m ms ss)) h z = record { key = l; below = ls; value = record { label = m; children = ms }; rest = ss; is = refl; are = h }

module _ {ws : List ℤ} {at n : ℕ} {f : Forest} (o : Opened ws at n f) where
  pub key_words : Two ws at (tag_word o.key (term_count o.below)) (datum_word o.key)
  key_words =
      let v : Forest = node o.value.label o.value.children o.rest in
      two_words ws at (length (encode (node o.key o.below v))) (tag_word o.key (term_count o.below)) (datum_word o.key) (encode o.below ++ encode v) o.are.stands.words

  key_head : T (ok_head o.key (term_count o.below))
  key_head = (shaped o.key o.below (node o.value.label o.value.children o.rest) o.are.shape).head

  -- a key of another kind
  pub no_entries : (get_or ws at (pos 0) ≡ pos 2 → ⊥) → entries f ≡ none
  no_entries g = ap entries o.is ∙ ap (λ (k : Option ℤ). k >>= λ k. entries o.rest >>= λ es. some (record { key = k; value = o.value } ∷ es)) (other_key o.key (term_count o.below) (λ e. g (key_words.first ∙ e)))

  -- a whole number: its value stands behind it, then the other entries
  module _ (e : get_or ws at (pos 0) ≡ pos 2) where
    whole_words : (as_whole o.key ≡ some (datum_word o.key)) × (term_count o.below ≡ 0)
    whole_words = whole_key o.key (term_count o.below) key_head (sym key_words.first ∙ e)

    key_is : as_whole o.key ≡ some (get_or ws (at + 1) (pos 0))
    key_is = whole_words.0 ∙ ap {B = Option ℤ} some (sym key_words.second)

    behind : Stands ws (at + 2) (encode (single o.value) ++ encode o.rest)
    behind =
        let v : Forest = node o.value.label o.value.children o.rest in
        let b : encode o.below ≡ [] = ap encode (childless o.below whole_words.1) in
        let w = subst (λ (x : List ℤ). Stands ws at (tag_word o.key (term_count o.below) ∷ datum_word o.key ∷ (x ++ encode v))) b o.are.stands in
        subst (Stands ws (at + 2)) (first_words o.value.label o.value.children o.rest) (stands_second (tag_word o.key (term_count o.below) ∷ datum_word o.key ∷ []) (encode v) w)

    value_shape : Shaped o.value.label o.value.children o.rest
    value_shape =
        let m = o.value.label in
        let ms = o.value.children in
        shaped m ms o.rest (shaped o.key o.below (node m ms o.rest) o.are.shape).rest

    value_ground : Labels ground_label o.value.label o.value.children o.rest
    value_ground =
        let m = o.value.label in
        let ms = o.value.children in
        labels ground_label m ms o.rest (labels ground_label o.key o.below (node m ms o.rest) o.are.grounded).rest

    pub value_at_lem : GroundAt ws (at + 2)
    value_at_lem =
        let m = o.value.label in
        let ms = o.value.children in
        record {
          term = o.value;
          shape = shaped_all m ms nil value_shape.head value_shape.children tt;
          grounded = labels_all ground_label m ms nil value_ground.here value_ground.children tt;
          stands = stands_first (encode (single o.value)) (encode o.rest) behind;
        }

    pub rest_at : (r : ℕ) → GroundEnds ws (at + 2) r → EntriesOf ws r (n - 1) o.rest
    unfolding value_at_lem
    rest_at r g =
        let v = value_at_lem in
        let e : r ≡ at + 2 + length (encode (single o.value)) = g.ends o.value v.shape v.grounded v.stands in
        let c = o.are.count in
        record {
          shape = value_shape.rest;
          grounded = value_ground.rest;
          count = omega arith;
          stands = subst⁻¹ (λ (i : ℕ). Stands ws i (encode o.rest)) e (stands_second (encode (single o.value)) (encode o.rest) behind);
        }

    entries_are : entries f ≡ (entries o.rest >>= λ es. some (record { key = get_or ws (at + 1) (pos 0); value = o.value } ∷ es))
    entries_are = ap entries o.is ∙ ap (λ (k : Option ℤ). k >>= λ k. entries o.rest >>= λ es. some (record { key = k; value = o.value } ∷ es)) key_is

    rise_first : all_rise (entries f) ≡ rise_from (get_or ws (at + 1) (pos 0)) (entries o.rest)
    rise_first = ap all_rise entries_are ∙ first_rise (get_or ws (at + 1) (pos 0)) o.value (entries o.rest)

    rise_next : (z : ℤ) → rise_from z (entries f) ≡ (lt_z z (get_or ws (at + 1) (pos 0)) && rise_from (get_or ws (at + 1) (pos 0)) (entries o.rest))
    rise_next z = ap (rise_from z) entries_are ∙ next_rise z (get_or ws (at + 1) (pos 0)) o.value (entries o.rest)

-- at most one list of entries stands at a place
pub entries_unique : {ws : List ℤ} {at n : ℕ} (f g : Forest) → EntriesOf ws at n f → EntriesOf ws at n g → f ≡ g
entries_unique f g x y = count_unique f g x.shape y.shape x.stands y.stands (x.count ∙ sym y.count)

-- ---- how far a walk over entries has come: k of them stand at i, the first with a whole number for a key, and they rise exactly if all do
pub record Rising (ws : List ℤ) (at n i k : ℕ) : Type 0 where
  pub forest : Forest
  pub are : EntriesOf ws i k forest
  pub some_left : 0 < k
  pub is_whole : get_or ws i (pos 0) ≡ pos 2
  pub same : (f : Forest) → EntriesOf ws at n f → all_rise (entries f) ≡ all_rise (entries forest)

module _ {ws : List ℤ} {at n : ℕ} where
  pub rising_start : EntriesAt ws at n → 0 < n → get_or ws at (pos 0) ≡ pos 2 → Rising ws at n at n
  rising_start h z e =
      record { forest = h.forest; are = h.are; some_left = z; is_whole = e; same = λ f x. ap (λ (g : Forest). all_rise (entries g)) (entries_unique f h.forest x h.are) }

module _ {ws : List ℤ} {at n i k : ℕ} (r : Rising ws at n i k) where
  pub rising_here : Opened ws i k r.forest
  rising_here = opened r.forest r.are r.some_left

  rise_on : (f : Forest) → EntriesOf ws at n f → all_rise (entries f) ≡ rise_from (get_or ws (i + 1) (pos 0)) (entries rising_here.rest)
  rise_on f h = r.same f h ∙ rise_first rising_here r.is_whole

  -- the last of them
  pub rising_end : k ≤ 1 → Rises ws at n true
  rising_end z =
      let c = rising_here.are.count in
      let e : rising_here.rest ≡ nil = childless rising_here.rest (omega arith) in
      record { is = λ f h. sym (rise_on f h ∙ ap (λ (g : Forest). rise_from (get_or ws (i + 1) (pos 0)) (entries g)) e) }

  -- or one more behind its value
  pub rising_value : GroundAt ws (i + 2)
  rising_value = value_at_lem rising_here r.is_whole

  module _ (j : ℕ) (g : GroundEnds ws (i + 2) j) where
    behind_value : EntriesOf ws j (k - 1) rising_here.rest
    behind_value = rest_at rising_here r.is_whole j g

    module _ (z : 1 < k) where
      pub rising_next : Opened ws j (k - 1) rising_here.rest
      rising_next = opened rising_here.rest behind_value (omega arith)

      pub rising_other : (get_or ws j (pos 0) ≡ pos 2 → ⊥) → Rises ws at n false
      rising_other f = record { is = λ x h. sym (rise_on x h ∙ ap (rise_from (get_or ws (i + 1) (pos 0))) (no_entries rising_next f)) }

      module _ (e : get_or ws j (pos 0) ≡ pos 2) where
        rise_over : (b : Bool) → lt_z (get_or ws (i + 1) (pos 0)) (get_or ws (j + 1) (pos 0)) ≡ b → (f : Forest) → EntriesOf ws at n f → all_rise (entries f) ≡ (b && all_rise (entries rising_here.rest))
        rise_over b q f h =
            rise_on f h ∙
            (rise_next rising_next e (get_or ws (i + 1) (pos 0)) ∙
            (ap (λ (x : Bool). x && rise_from (get_or ws (j + 1) (pos 0)) (entries rising_next.rest)) q ∙ ap (λ (x : Bool). b && x) (sym (rise_first rising_next e))))

        pub rising_stop : lt_z (get_or ws (i + 1) (pos 0)) (get_or ws (j + 1) (pos 0)) ≡ false → Rises ws at n false
        rising_stop q = record { is = λ f h. sym (rise_over false q f h) }

        pub rising_on : lt_z (get_or ws (i + 1) (pos 0)) (get_or ws (j + 1) (pos 0)) ≡ true → Rising ws at n j (k - 1)
        rising_on q = record { forest = rising_here.rest; are = behind_value; some_left = omega arith; is_whole = e; same = rise_over true q }

-- ---- the terms that stand from a place up to another, by the first node
pub record Front (ws : List ℤ) (from to : ℕ) (f : Forest) : Type 0 where
  pub label : Label
  pub children : Forest
  pub rest : Forest
  pub is : f ≡ node label children rest
  pub fills : FillsTo ws from to (node label children rest)

pub front : {ws : List ℤ} {from to : ℕ} (f : Forest) → FillsTo ws from to f → from < to → Front ws from to f
front nil h z = absurd (let c = h.ends in let f : ⊥ = omega arith in f)
front (node l cs ss) h z = record { label = l; children = cs; rest = ss; is = refl; fills = h }

module _ {ws : List ℤ} {from to : ℕ} {f : Forest} (o : Front ws from to f) where
  pub front_words : Two ws from (tag_word o.label (term_count o.children)) (datum_word o.label)
  front_words =
      let l = o.label in
      let cs = o.children in
      two_words ws from (length (encode (node l cs o.rest))) (tag_word l (term_count cs)) (datum_word l) (encode cs ++ encode o.rest) o.fills.stands.words

  front_shape : Shaped o.label o.children o.rest
  front_shape = shaped o.label o.children o.rest o.fills.shape

  front_closed : Closed o.label o.children o.rest
  front_closed = closed_parts o.label o.children o.rest o.fills.below

  front_behind : Stands ws (from + 2) (encode o.children ++ encode o.rest)
  front_behind = stands_second (tag_word o.label (term_count o.children) ∷ datum_word o.label ∷ []) (encode o.children ++ encode o.rest) o.fills.stands

  -- what is left behind its two words
  abbrev pub left : Forest
  left = appended o.children o.rest

  pub front_next : FillsTo ws (from + 2) to left
  front_next =
      let w = encode_appended o.children o.rest in
      let n : length (encode left) ≡ length (encode o.children ++ encode o.rest) = ap length w in
      let e = o.fills.ends in
      record {
        shape = appended_shapely o.children o.rest front_shape.children front_shape.rest;
        below = appended_closed o.children o.rest front_closed.children front_closed.rest;
        stands = subst⁻¹ (Stands ws (from + 2)) w front_behind;
        ends = omega arith;
      }

  front_order : (b : Bool) → ok_below o.label o.children ≡ b → ordered f ≡ (b && ordered left)
  front_order b e = ap ordered o.is ∙ (ordered_node o.label o.children o.rest ∙ ap (λ (x : Bool). x && ordered left) e)

  -- any node but a dictionary: the order is that of what is left
  pub front_other : (get_or ws from (pos 0) ≡ pos dictionary_tag → ⊥) → ordered f ≡ ordered left
  front_other g =
      front_order true (below_other o.label o.children (λ n e. g (front_words.first ∙ ap (λ (m : Label). tag_word m (term_count o.children)) e)))

  -- a dictionary
  module _ (e : get_or ws from (pos 0) ≡ pos dictionary_tag) where
    pub front_dictionary : (n : ℕ) × DictionaryNode n o.label (term_count o.children)
    front_dictionary = dictionary_tag_lem o.label (term_count o.children) front_shape.head (sym front_words.first ∙ e)

    pub front_count : get_or ws (from + 1) (pos 0) ≡ pos front_dictionary.0
    front_count = front_words.second ∙ ap datum_word front_dictionary.1.label

    front_ground : T (is_ground o.children)
    front_ground = subst (λ (l : Label). T (shut_at l (is_ground o.children))) front_dictionary.1.label front_closed.here

    pub front_entries : EntriesOf ws (from + 2) front_dictionary.0 o.children
    front_entries =
        record {
          shape = front_shape.children;
          grounded = front_ground;
          count = front_dictionary.1.two;
          stands = stands_first (encode o.children) (encode o.rest) front_behind;
        }

    pub front_rises : (r : Bool) → r ≡ all_rise (entries o.children) → ordered f ≡ (r && ordered left)
    front_rises r q =
        front_order r
        (ap (λ (l : Label). ok_below l o.children) front_dictionary.1.label ∙
        (ap (λ (b : Bool). b && all_rise (entries o.children)) (true_of (is_ground o.children) front_ground) ∙ sym q))

-- nothing is left; and at most one list of terms stands from a place up to another
pub order_end : {ws : List ℤ} {from to : ℕ} (f : Forest) → FillsTo ws from to f → to ≤ from → ordered f ≡ true
order_end nil h z = refl
order_end (node l cs ss) h z = absurd (let e = h.ends in let f : ⊥ = omega arith in f)

pub fills_unique : {ws : List ℤ} {from to : ℕ} (f g : Forest) → FillsTo ws from to f → FillsTo ws from to g → f ≡ g
fills_unique f g x y = let a = x.ends in let b = y.ends in end_unique f g x.shape y.shape x.stands y.stands (omega arith)

-- ---- how far a walk over terms has come: what is left from i on is in order exactly if all are
pub record Ordering (ws : List ℤ) (from to i : ℕ) : Type 0 where
  pub forest : Forest
  pub fills : FillsTo ws i to forest
  pub same : (f : Forest) → FillsTo ws from to f → ordered f ≡ ordered forest

pub ordering_start : {ws : List ℤ} {from to : ℕ} → Filled ws from to → Ordering ws from to from
ordering_start e = record { forest = e.forest; fills = e.fills; same = λ f h. ap ordered (fills_unique f e.forest h e.fills) }

module _ {ws : List ℤ} {from to i : ℕ} (r : Ordering ws from to i) where
  pub ordering_end : to ≤ i → InOrder ws from to true
  ordering_end z = record { is = λ f h. sym (r.same f h ∙ order_end r.forest r.fills z) }

  module _ (z : i < to) where
    pub ordering_here : Front ws i to r.forest
    ordering_here = front r.forest r.fills z

    pub ordering_other : (get_or ws i (pos 0) ≡ pos dictionary_tag → ⊥) → Ordering ws from to (i + 2)
    ordering_other g = record { forest = left ordering_here; fills = front_next ordering_here; same = λ f h. r.same f h ∙ front_other ordering_here g }

    module _ (e : get_or ws i (pos 0) ≡ pos dictionary_tag) where
      -- its datum counts its entries
      abbrev count : ℕ
      count = nat_abs (get_or ws (i + 1) (pos 0))

      counted : get_or ws (i + 1) (pos 0) ≡ pos count
      counted = let q = front_count ordering_here e in q ∙ ap (λ (z : ℤ). pos (nat_abs z)) (sym q)

      pub ordering_count : T (non_neg (get_or ws (i + 1) (pos 0)))
      ordering_count = subst⁻¹ (λ (z : ℤ). T (non_neg z)) counted tt

      here_entries : EntriesOf ws (i + 2) count ordering_here.children
      here_entries =
          let q = front_count ordering_here e in
          let c = counted in
          subst (λ (m : ℕ). EntriesOf ws (i + 2) m ordering_here.children) (let z : (front_dictionary ordering_here e).0 ≡ count = cc in z) (front_entries ordering_here e)

      pub ordering_entries : EntriesAt ws (i + 2) count
      ordering_entries = record { forest = ordering_here.children; are = here_entries }

      ordering_on : (b : Bool) → Rises ws (i + 2) count b → (f : Forest) → FillsTo ws from to f → ordered f ≡ (b && ordered (left ordering_here))
      ordering_on b q f h = r.same f h ∙ front_rises ordering_here e b (q.is ordering_here.children here_entries)

      pub ordering_stop : Rises ws (i + 2) count false → InOrder ws from to false
      ordering_stop q = record { is = λ f h. sym (ordering_on false q f h) }

      pub ordering_next : Rises ws (i + 2) count true → Ordering ws from to (i + 2)
      ordering_next q = record { forest = left ordering_here; fills = front_next ordering_here; same = ordering_on true q }
