-- One item of a right, by the node's tag: a variable's part, a call's value, or a plain node's two words; its size; and the rest behind it.
use mathlib.Core.Path.{◌≡◌, refl, sym, ◌∙◌, ap, subst, subst⁻¹, subst₂}
use mathlib.Core.Bool.{Bool, true, false, not, ◌&&◌, cond, false≢true}
use mathlib.Core.Option.{Option, some}
use mathlib.Core.List.{List, [], ◌∷◌, ◌++◌}
use Prim.Native.Nat.{ℕ, ◌+◌, ◌-◌, ◌≤◌, ◌<◌}
use native.Mathlib.Omega.{arith}
use lib.Dec.{T, eqb}
use mir.Syntax.{w64}
use mir.Val.{of_z}
use lib.IntN.{ℤ, pos, nat_abs}
use lib.ListN.{length, take, drop, get_or, length-append}
use lib.Signed.{non_neg}
use borrow.Author.Tests.{ne_eqb}
use Rattle.minuska.specs.Basics.{◌>>=◌}
use Rattle.minuska.specs.Term.{Label, whole, Forest, nil, node, Term, single, leaf, term_count, Role, a_variable, role, is_ground}
use Rattle.minuska.specs.Word.{variables, ok_head, ok, tag_word, datum_word, encode}
use Rattle.minuska.specs.Function.{in_word, share_range, out_of_range, interpret}
use Rattle.minuska.specs.Satisfaction.{Valuation}
use Rattle.minuska.specs.Rule.{in_expression, inner_at, expression_at, is_expression, is_expression_term}
use Rattle.minuska.specs.Computed.Read.{variable_tag, call_tag}
use Rattle.minuska.specs.Computed.Value.{value_at, value, values}
use Rattle.minuska.specs.Bridge.Walk.{emit}
use Rattle.minuska.specs.Bridge.Place.{Stands, part}
use Rattle.minuska.proofs.Tests.{and_left, and_right, and_both}
use Rattle.minuska.proofs.FunctionLaw.{every_value}
use Rattle.minuska.proofs.NodeLaw.{variable_tag_lem, call_tag_lem, plain_tag}
use Rattle.minuska.proofs.WordLaw.{childless, okay, head_okay, okay_all, appended, encode_appended}
use Rattle.minuska.proofs.Bridge.AppendedLaw.{first_words, appended_ok}
use Rattle.minuska.proofs.Bridge.ItemLaw.{variable_item, call_item, plain_item, term_appended}
use Rattle.minuska.proofs.Bridge.ShapeLaw.{ok_shapely}
use Rattle.minuska.proofs.Bridge.PlaceLaw.{stands_first, stands_second, stands_head, stands_word}
use Rattle.term.specs.TermAt.{TermAt, TermEnds}
use Rattle.value.specs.declared.Evaluated.{Evaluated}
use Rattle.value.specs.declared.Value.TheVariants as W
use Rattle.value.specs.Value.{value_words, Within, size_of, Ordered}
use Rattle.value.specs.Evaluate.{HasValue, ExpressionIn, EvaluateContract, CallIn}
use Rattle.value.proofs.WordsLaw.{size_is, within_ordered}
use Rattle.step.specs.Right.{Rest, SomeRest, LeadsOn, ItemOf, ItemIs, SizedOf, SizedIs, SomePiece, PieceIs, NoUpdate, OneNodeIs, WordsAre, FittingItem}
use Rattle.step.proofs.MatchingLaw.{word}

-- a node stands before the end, and its tag is read there
pub first : {ws cs : List ℤ} {starts ends : List ℕ} {at end : ℕ} {ρ : Valuation} {X : Type 0} (f : Forest) {us : List ℤ} → at < end → Rest ws cs starts ends at end ρ f us → ((l : Label) (ls ss : Forest) → Rest ws cs starts ends at end ρ (node l ls ss) us → word ws at ≡ tag_word l (term_count ls) → X) → X
first nil below r go = absurd (let e = r.up_to in let f : ⊥ = omega arith in f)
first (node l ls ss) below r go = go l ls ss r (stands_head r.stands (pos 0))

-- a function's value is one node
abbrev OneNode : Term → Type 0
OneNode t = 2 ≡ length (encode (single t))

one_if : (b : Bool) (z : ℤ) → OneNode (cond b (leaf (whole z)) out_of_range)
one_if true z = refl
one_if false z = refl

-- .. but a lookup's and an update's
abbrev pub Single : ℕ → Type 0
Single c = (c ≡ 16 → ⊥) × (c ≡ 17 → ⊥)

pub one_node : (c : ℕ) (xs : Forest) → Single c → OneNode (interpret c xs)
one_node = every_value (λ c xs. Single c) OneNode (λ b. refl) refl (λ z. one_if (in_word z) z) (λ a b c. one_if (share_range a b c) _) refl (λ xs f es k t p q. absurd (f.0 refl)) (λ xs f es k p q. absurd (f.1 refl))

-- a variable's number is in range, and its part is the item
record VariableItem (ws cs : List ℤ) (starts ends : List ℕ) (at end : ℕ) (ρ : Valuation) (us : List ℤ) (v : ℕ) : Type 0 where
  datum : T (non_neg (word ws (at + 1)))
  low : v < variables
  item : ItemOf ws cs starts ends at end ρ us (record { value = W.Configuration (record { from = get_or starts v 0; to = get_or ends v 0 }); next = at + 2 })

module _ {ws cs : List ℤ} {starts ends : List ℕ} {at end : ℕ} {ρ : Valuation} {l : Label} {ls ss : Forest} {us : List ℤ} (r : Rest ws cs starts ends at end ρ (node l ls ss) us) where
  -- ---- the first term, and the rest behind it
  abbrev this : Term
  this = record { label = l; children = ls }

  standing : Stands ws at (encode (single this) ++ encode ss)
  standing = subst (Stands ws at) (first_words l ls ss) r.stands

  good_here : T (ok (single this))
  good_here = let o = okay l ls ss r.good in okay_all l ls nil o.allowed o.children tt

  abbrev term_here : TermAt ws at
  term_here =
      record { term = this; shape = ok_shapely (single this) good_here; stands = stands_first (encode (single this)) (encode ss) standing }

  behind : (words : List ℤ) → emit ρ ss ≡ some words → Rest ws cs starts ends (at + length (encode (single this))) end ρ ss words
  behind words e =
      let a = expression_at (role l) (is_expression ls) (is_expression_term ls) in
      record {
        good = (okay l ls ss r.good).rest;
        shape = and_right a (is_expression_term ss) r.shape;
        stands = stands_second (encode (single this)) (encode ss) standing;
        up_to = r.up_to ∙ omega (arith, ap length (first_words l ls ss), length-append (encode (single this)) (encode ss));
        emits = e;
        binds = r.binds;
      }

  pub in_range : T (ok_head l (term_count ls))
  in_range = head_okay l ls (okay l ls ss r.good).allowed

  -- a term's words are emitted for the first term
  pub leads_on : (t : Term) (words : List ℤ) → encode (single t) ++ words ≡ us → emit ρ ss ≡ some words → LeadsOn ws cs starts ends at end ρ us (encode (single t)) (at + length (encode (single this)))
  leads_on t words p e = record { later = ss; words = words; parted = p; forward = omega arith; rest = behind words e }

  pub expression_shape : T (expression_at (role l) (is_expression ls) (is_expression_term ls))
  expression_shape = and_left (expression_at (role l) (is_expression ls) (is_expression_term ls)) (is_expression_term ss) r.shape

  -- ---- a variable
  variable_here : tag_word l (term_count ls) ≡ pos variable_tag → (v : ℕ) → v ≡ nat_abs (word ws (at + 1)) → VariableItem ws cs starts ends at end ρ us v
  unfolding value_words Within
  variable_here h v e =
      let (u, k, x) = variable_tag_lem l (term_count ls) in_range h in
      let d : word ws (at + 1) ≡ pos u = stands_word r.stands 1 (pos 0) (omega arith) ∙ x.datum in
      let i = variable_item ρ l ls ss us r.emits v (k ∙ ap a_variable (sym (e ∙ ap nat_abs d))) in
      let b = r.binds.places v i.0 i.2 in
      let z : ls ≡ nil = childless ls x.childless in
      let q : at + length (encode (single this)) ≡ at + 2 = ap (λ (f : Forest). at + length (encode (node l f nil))) z in
      let m : get_or ends v 0 - get_or starts v 0 ≡ length (encode (single i.0)) = omega (arith, b.ends) in
      let j : part cs (get_or starts v 0) (get_or ends v 0) ≡ encode (single i.0) = ap (λ (j : ℕ). take j (drop (get_or starts v 0) cs)) m ∙ b.stands.words in
      record {
        datum = subst⁻¹ (λ (y : ℤ). T (non_neg y)) d tt;
        low = b.variable;
        item = record { within = (omega (arith, b.ends), omega (arith, b.ends, b.stands.within)); leads = subst₂ (λ (vs : List ℤ) (j : ℕ). LeadsOn ws cs starts ends at end ρ us vs j) (sym j) q (leads_on i.0 i.1 i.3 i.4) };
      }

  -- ---- a call: an expression that is worth a function's value
  module _ (tag : tag_word l (term_count ls) ≡ pos call_tag) where
    record CallItem : Type 0 where
      code : ℕ
      arguments : Forest
      coded : word ws (at + 1) ≡ pos code
      has : NoUpdate ws at → HasValue ws cs starts ends at ρ this (interpret code arguments)
      leads : LeadsOn ws cs starts ends at end ρ us (encode (single (interpret code arguments))) (at + length (encode (single this)))

    here_tag : word ws at ≡ tag_word l (term_count ls)
    here_tag = stands_head r.stands (pos 0)

    call_here : CallItem
    call_here =
        let (c, k, n) = call_tag_lem l (term_count ls) in_range tag in
        let i = call_item ρ l ls ss us r.emits c k in
        let x = subst (λ (z : Role). T (expression_at z (is_expression ls) (is_expression_term ls))) k expression_shape in
        let d : word ws (at + 1) ≡ pos c = stands_word r.stands 1 (pos 0) (omega arith) ∙ n.datum in
        let y : NoUpdate ws at → T (is_expression (single this)) =
        λ other.
        let q : T (in_expression c) = subst⁻¹ (λ (b : Bool). T (not b)) (ne_eqb c 17 (λ e. other.not (record { call = here_tag ∙ tag; code = d ∙ ap pos e }))) tt in
        subst (λ (z : Role). T (inner_at z (is_expression ls) (is_ground ls) && is_expression nil)) (sym k) (and_both (in_expression c && is_expression ls) (is_expression nil) (and_both (in_expression c) (is_expression ls) q x) tt) in
        let v : value ρ this ≡ some (interpret c i.0) =
        subst (λ (z : Role). value_at ρ z l (values ρ ls) ≡ some (interpret c i.0)) (sym k) (ap (λ (o : Option Forest). o >>= λ ys. some (interpret c ys)) i.2) in
        record {
          code = c;
          arguments = i.0;
          coded = d;
          has = λ other. record { placed = record { good = good_here; expressions = y other; stands = term_here.stands; binds = r.binds }; is = v };
          leads = leads_on (interpret c i.0) i.1 i.3 i.4;
        }

    expression_in : NoUpdate ws at → ExpressionIn ws cs starts ends at
    expression_in other = let g = call_here in record { valuation = ρ; expression = this; term = interpret g.code g.arguments; has = g.has other }

    evaluated_item : NoUpdate ws at → (s : Evaluated) → EvaluateContract ws cs starts ends at s → ItemOf ws cs starts ends at end ρ us s
    evaluated_item other s c =
        let g = call_here in
        let m = c.meant ρ this (interpret g.code g.arguments) (g.has other) in
        record { within = m.is.within; leads = subst₂ (λ (vs : List ℤ) (n : ℕ). LeadsOn ws cs starts ends at end ρ us vs n) (sym m.is.words) (sym m.next) g.leads }

    call_size : (word ws (at + 1) ≡ pos 16 → ⊥) → (word ws (at + 1) ≡ pos 17 → ⊥) → (e : ℕ) → TermEnds ws at e → SizedOf ws cs starts ends at end ρ us (record { words = 2; next = e })
    call_size p q e x =
        let g = call_here in
        let v = encode (single (interpret g.code g.arguments)) in
        record { first = v; many = one_node g.code g.arguments (λ i. p (g.coded ∙ ap pos i), λ i. q (g.coded ∙ ap pos i)); leads = subst (λ (n : ℕ). LeadsOn ws cs starts ends at end ρ us v n) (sym (x.ends this term_here.shape term_here.stands)) g.leads }

  -- ---- a plain node: its two words as they stand
  abbrev two : List ℤ
  two = tag_word l (term_count ls) ∷ datum_word l ∷ []

  flattened : encode (node l ls ss) ≡ two ++ encode (appended ls ss)
  flattened = ap (λ (z : List ℤ). tag_word l (term_count ls) ∷ datum_word l ∷ z) (sym (encode_appended ls ss))

  two_stand : Stands ws at (two ++ encode (appended ls ss))
  two_stand = subst (Stands ws at) flattened r.stands

  node_leads : (tag_word l (term_count ls) ≡ pos variable_tag → ⊥) → (tag_word l (term_count ls) ≡ pos call_tag → ⊥) → LeadsOn ws cs starts ends at end ρ us two (at + 2)
  node_leads f g =
      let k = plain_tag l (term_count ls) in_range f g in
      let i = plain_item ρ l ls ss us r.emits k in
      let o = okay l ls ss r.good in
      record {
        later = appended ls ss;
        words = i.0;
        parted = i.1;
        forward = omega arith;
        rest =
            record {
              good = appended_ok ls ss o.children o.rest;
              shape = term_appended ls ss (subst (λ (z : Role). T (expression_at z (is_expression ls) (is_expression_term ls))) k expression_shape) (and_right (expression_at (role l) (is_expression ls) (is_expression_term ls)) (is_expression_term ss) r.shape);
              stands = stands_second two (encode (appended ls ss)) two_stand;
              up_to = r.up_to ∙ omega (arith, ap length flattened, length-append two (encode (appended ls ss)));
              emits = i.2;
              binds = r.binds;
            };
      }

  node_item : (tag_word l (term_count ls) ≡ pos variable_tag → ⊥) → (tag_word l (term_count ls) ≡ pos call_tag → ⊥) → ItemOf ws cs starts ends at end ρ us (record { value = W.Table (record { from = at; to = at + 2 }); next = at + 2 })
  unfolding value_words Within
  node_item f g =
      let h : Stands ws at two = stands_first two (encode (appended ls ss)) two_stand in
      let n : at + 2 - at ≡ 2 = omega arith in
      record { within = (omega arith, h.within); leads = subst (λ (vs : List ℤ). LeadsOn ws cs starts ends at end ρ us vs (at + 2)) (sym (ap (λ (m : ℕ). take m (drop at ws)) n ∙ h.words)) (node_leads f g) }

  -- the same two words, read
  node_read : (tag_word l (term_count ls) ≡ pos variable_tag → ⊥) → (tag_word l (term_count ls) ≡ pos call_tag → ⊥) → (t d : ℤ) → t ≡ word ws at → d ≡ word ws (at + 1) → ItemOf ws cs starts ends at end ρ us (record { value = W.Computed (record { tag = t; datum = d }); next = at + 2 })
  unfolding value_words Within
  node_read f g t d p q =
      let x : word ws at ≡ tag_word l (term_count ls) = stands_head r.stands (pos 0) in
      let y : word ws (at + 1) ≡ datum_word l = stands_word r.stands 1 (pos 0) (omega arith) in
      record { within = tt; leads = subst₂ (λ (a b : ℤ). LeadsOn ws cs starts ends at end ρ us (a ∷ b ∷ []) (at + 2)) (sym (p ∙ x)) (sym (q ∙ y)) (node_leads f g) }

-- a node's two words
pub node_within : {ws cs : List ℤ} {starts ends : List ℕ} {at end : ℕ} → at < end → SomeRest ws cs starts ends at end → at + 2 ≤ length ws
node_within below s = first s.terms below s.is λ l ls ss r t. omega (arith, r.stands.within)

-- ---- `piece`, by the tag that it reads
module _ (ws : List ℤ) (starts ends : List ℕ) (at : ℕ) where
  pub piece_within : SomePiece ws starts ends at → at + 2 ≤ length ws
  piece_within s = node_within s.before s.rest

  module _ (three : word ws at ≡ pos variable_tag) (v : ℕ) (number : v ≡ nat_abs (word ws (at + 1))) where
    pub variable_fits : SomePiece ws starts ends at → T (non_neg (word ws (at + 1))) × (v < variables)
    variable_fits s = first s.rest.terms s.before s.rest.is λ l ls ss r t. let x = variable_here r (sym t ∙ three) v number in (x.datum, x.low)

    pub variable_is : PieceIs ws starts ends at (record { value = W.Configuration (record { from = get_or starts v 0; to = get_or ends v 0 }); next = at + 2 })
    variable_is = record { is = λ cs end ρ f us below r. first f below r (λ l ls ss k t. (variable_here k (sym t ∙ three) v number).item) }

  pub node_is : (word ws at ≡ pos variable_tag → ⊥) → (word ws at ≡ pos call_tag → ⊥) → PieceIs ws starts ends at (record { value = W.Table (record { from = at; to = at + 2 }); next = at + 2 })
  node_is f g = record { is = λ cs end ρ h us below r. first h below r (λ l ls ss k t. node_item k (λ e. f (t ∙ e)) (λ e. g (t ∙ e))) }

-- ---- `item` at a call
module _ (ws cs : List ℤ) (starts ends : List ℕ) (at end : ℕ) (below : at < end) (four : word ws at ≡ pos call_tag) (other : NoUpdate ws at) where
  pub evaluate_needs : SomeRest ws cs starts ends at end → ExpressionIn ws cs starts ends at
  evaluate_needs s = first s.terms below s.is λ l ls ss r t. expression_in r (sym t ∙ four) other

  pub call_needs : SomeRest ws cs starts ends at end → CallIn ws cs starts ends at
  call_needs s = record { expression = evaluate_needs s; tag = four }

  pub evaluated_is : (s : Evaluated) → EvaluateContract ws cs starts ends at s → ItemIs ws cs starts ends at end s
  evaluated_is s c = record { is = λ ρ f us r. first f below r (λ l ls ss k t. evaluated_item k (sym t ∙ four) other s c) }

-- ---- `item_size`: a call that gives one node, or else the item's own size
module _ (ws : List ℤ) (at : ℕ) where
  pub one_node_call : word ws at ≡ pos call_tag → (word ws (at + 1) ≡ pos 16 → ⊥) → (word ws (at + 1) ≡ pos 17 → ⊥) → OneNodeIs ws at true
  one_node_call four p q = record { call = λ e. four; expression = λ e. record { not = λ u. q u.code }; size = λ e cs starts ends end ρ f us below r next x. first f below r (λ l ls ss k t. call_size k (sym t ∙ four) p q next x) }

  pub no_one_node : OneNodeIs ws at false
  no_one_node = record { call = λ e. absurd (false≢true e); expression = λ e. absurd (false≢true e); size = λ e. absurd (false≢true e) }

  -- by the tests of the code
  pub one_node_by : word ws at ≡ pos call_tag → not (eqb (of_z w64 (word ws (at + 1))) 16) ≡ true → OneNodeIs ws at (not (eqb (of_z w64 (word ws (at + 1))) 17))
  one_node_by four lookup = go (not (eqb (of_z w64 (word ws (at + 1))) 17)) refl
    where
      other : (n : ℕ) → not (eqb (of_z w64 (word ws (at + 1))) n) ≡ true → not (eqb n n) ≡ false → word ws (at + 1) ≡ pos n → ⊥
      other n e f p = let z : true ≡ false = sym e ∙ (ap (λ (y : ℤ). not (eqb (of_z w64 y) n)) p ∙ f) in cc

      go : (b : Bool) → not (eqb (of_z w64 (word ws (at + 1))) 17) ≡ b → OneNodeIs ws at b
      go true e = one_node_call four (other 16 lookup refl) (other 17 e refl)
      go false e = no_one_node

module _ (ws cs : List ℤ) (starts ends : List ℕ) (at end : ℕ) (below : at < end) where
  pub call_sized : (b : Bool) → OneNodeIs ws at b → b ≡ true → (e : ℕ) → TermEnds ws at e → SizedIs ws cs starts ends at end (record { words = 2; next = e })
  call_sized b o t e x = record { is = λ ρ f us r. o.size t cs starts ends end ρ f us below r e x }

  pub node_words : (word ws at ≡ pos variable_tag → ⊥) → (word ws at ≡ pos call_tag → ⊥) → (t d : ℤ) → t ≡ word ws at → d ≡ word ws (at + 1) → ItemIs ws cs starts ends at end (record { value = W.Computed (record { tag = t; datum = d }); next = at + 2 })
  node_words f g t d p q = record { is = λ ρ h us r. first h below r (λ l ls ss k y. node_read k (λ e. f (y ∙ e)) (λ e. g (y ∙ e)) t d p q) }

  module _ (s : Evaluated) (x : ItemIs ws cs starts ends at end s) where
    pub item_ordered : SomeRest ws cs starts ends at end → Ordered s.value
    item_ordered i = within_ordered ws cs s.value (x.is i.valuation i.terms i.words i.is).within

    pub item_sized : (n : ℕ) → n ≡ size_of s.value → SizedIs ws cs starts ends at end (record { words = n; next = s.next })
    item_sized n e = record { is = λ ρ f us r. let g = x.is ρ f us r in record { first = value_words ws cs s.value; many = e ∙ sym (size_is ws cs s.value g.within); leads = g.leads } }

    pub item_words : WordsAre ws cs starts ends at end (value_words ws cs s.value) s.next
    item_words = record { is = λ ρ f us r. (x.is ρ f us r).leads }

    -- ---- `write_item`: an item ends within the table, and there is room for its words
    module _ (room : ℕ) (k : FittingItem ws cs starts ends at end room) where
      this_item : ItemOf ws cs starts ends at end k.rest.valuation k.rest.words s
      this_item = let i = k.rest in x.is i.valuation i.terms i.words i.is

      pub item_room : Within ws cs s.value × (size_of s.value ≤ room)
      item_room =
          let g = this_item in
          (g.within, omega (arith, size_is ws cs s.value g.within, ap length g.leads.parted, length-append (value_words ws cs s.value) g.leads.words, k.fit))
