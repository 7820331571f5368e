-- What stands where an expression stands, by its tag, and what it is has.
use mathlib.Core.Path.{◌≡◌, refl, sym, ◌∙◌, ap, subst, subst⁻¹}
use mathlib.Core.Bool.{true, false, ◌&&◌, cond}
use mathlib.Core.Option.{Option, some, some-injective}
use mathlib.Core.List.{List, [], ◌∷◌, ◌++◌, append-nil}
use Prim.Native.Nat.{ℕ, suc, ◌+◌, ◌-◌, ◌*◌, ◌≤◌, ◌<◌}
use native.Mathlib.Omega.{arith}
use lib.Dec.{T, eqb, ltb, ltb→lt, lt→ltb}
use lib.IntN.{ℤ, pos, nat_abs}
use lib.Signed.{lt_z}
use borrow.Author.Tests.{ltb-true, ne_eqb}
use lib.ListN.{length, get_or, length-append}
use Rattle.minuska.specs.Basics.{◌>>=◌}
use Rattle.minuska.specs.Term.{Label, Forest, nil, node, Term, cons, single, term_count, Role, a_variable, a_call, plain, role, ground_at, is_ground}
use Rattle.minuska.specs.Word.{variables, tag_word, datum_word, ok_head, encode}
use Rattle.minuska.specs.Function.{functions, function_at, interpret}
use Rattle.minuska.specs.Rule.{updating, in_expression, inner_at, is_expression}
use Rattle.minuska.specs.Satisfaction.{Valuation}
use Rattle.minuska.specs.Computed.Read.{variable_tag, call_tag, symbol_tag, dictionary_tag, plain_children}
use Rattle.minuska.specs.Computed.Value.{value_at, values, value}
use Rattle.minuska.specs.Bridge.Place.{Stands, BoundAt}
use Rattle.minuska.proofs.Tests.{came, and_left, and_right, and_both}
use Rattle.minuska.proofs.NodeLaw.{NodeIs, node_is, variable_tag_lem, call_tag_lem, plain_tag}
use Rattle.minuska.proofs.WordLaw.{okay, okay_all, head_okay}
use Rattle.minuska.proofs.ValueLaw.{ground_value}
use Rattle.minuska.proofs.Bridge.PlaceLaw.{stands_first, stands_second, Two, two_words}
use Rattle.value.specs.Evaluate.{HasValue, HaveValues, first_of, rest_of}

-- a term's words are its node's, then its children's; the words of the rest follow
pub encode_first : (l : Label) (cs ss : Forest) → encode (node l cs ss) ≡ encode (node l cs nil) ++ encode ss
encode_first l cs ss = ap (λ (x : List ℤ). tag_word l (term_count cs) ∷ datum_word l ∷ (x ++ encode ss)) (sym (append-nil (encode cs)))

pub encode_node : (l : Label) (cs : Forest) → encode (node l cs nil) ≡ (tag_word l (term_count cs) ∷ datum_word l ∷ []) ++ encode cs
encode_node l cs = ap (λ (x : List ℤ). tag_word l (term_count cs) ∷ datum_word l ∷ x) (append-nil (encode cs))

pub no_terms : (f : Forest) → term_count f ≡ 0 → f ≡ nil
no_terms nil e = refl
no_terms (node l cs ss) e = absurd (let h : ⊥ = omega arith in h)

-- the first two words of terms that stand somewhere
pub head_words : (ws : List ℤ) (at : ℕ) (l : Label) (cs ss : Forest) → Stands ws at (encode (node l cs ss)) → Two ws at (tag_word l (term_count cs)) (datum_word l)
head_words ws at l cs ss s = two_words ws at (length (encode (node l cs ss))) (tag_word l (term_count cs)) (datum_word l) (encode cs ++ encode ss) s.words

module _ (table config : List ℤ) (starts ends : List ℕ) (at : ℕ) (ρ : Valuation) where
  -- ---- by its tag: a variable, a call, a ground term
  pub record VariableHere (e t : Term) : Type 0 where
    pub number : ℕ
    pub role_is : role e.label ≡ a_variable number
    pub small : number < variables
    pub datum : get_or table (at + 1) (pos 0) ≡ pos number
    pub bound : BoundAt config (get_or starts number 0) (get_or ends number 0) number t
    pub long : length (encode (single e)) ≡ 2

  pub record CallHere (e t : Term) : Type 0 where
    pub code : ℕ
    pub role_is : role e.label ≡ a_call code
    pub small : code < length functions
    pub no_update : code ≡ updating → ⊥
    pub datum : get_or table (at + 1) (pos 0) ≡ pos code
    pub terms : Forest
    pub have : HaveValues table config starts ends (at + 2) ρ e.children terms
    pub many : term_count e.children ≡ (function_at code).arity
    pub is : interpret code terms ≡ t
    pub long : length (encode (single e)) ≡ 2 + length (encode e.children)

  pub record GroundHere (e t : Term) : Type 0 where
    pub role_is : role e.label ≡ plain
    pub grounded : T (is_ground (single e))
    pub is : e ≡ t

  -- the node's own words
  module _ (e t : Term) (w : HasValue table config starts ends at ρ e t) where
    abbrev l : Label
    l = e.label

    abbrev cs : Forest
    cs = e.children

    abbrev two : List ℤ
    two = tag_word l (term_count cs) ∷ datum_word l ∷ []

    abbrev good : T (ok_head l (term_count cs))
    good = head_okay l cs (okay l cs nil w.placed.good).allowed

    words : Two table at (tag_word l (term_count cs)) (datum_word l)
    words = head_words table at l cs nil w.placed.stands

    worth : (r : Role) → role l ≡ r → value_at ρ r l (values ρ cs) ≡ some t
    worth r q = subst (λ (r : Role). value_at ρ r l (values ρ cs) ≡ some t) q w.is

    shaped : (r : Role) → role l ≡ r → T (inner_at r (is_expression cs) (is_ground cs))
    shaped r q = subst (λ (r : Role). T (inner_at r (is_expression cs) (is_ground cs))) q (and_left (inner_at (role l) (is_expression cs) (is_ground cs)) true w.placed.expressions)

    pub is_variable : get_or table at (pos 0) ≡ pos variable_tag → VariableHere e t
    is_variable h =
        let (v, q, n) = variable_tag_lem l (term_count cs) good (sym words.first ∙ h) in
        record {
          number = v;
          role_is = q;
          small = n.small;
          datum = words.second ∙ n.datum;
          bound = w.placed.binds.places v t (worth (a_variable v) q);
          long = ap (λ (f : Forest). length (encode (node l f nil))) (no_terms cs n.childless);
        }

    pub is_call : get_or table at (pos 0) ≡ pos call_tag → CallHere e t
    is_call h =
        let (c, q, n) = call_tag_lem l (term_count cs) good (sym words.first ∙ h) in
        let p = w.placed in
        let k = came (values ρ cs) (λ ys. some (interpret c ys)) t (worth (a_call c) q) in
        record {
          code = c;
          role_is = q;
          small = n.small;
          no_update = λ e. subst (λ (i : ℕ). T (in_expression i)) e (and_left (in_expression c) (is_expression cs) (shaped (a_call c) q));
          datum = words.second ∙ n.datum;
          terms = k.0;
          have = record {
            placed = record {
              good = (okay l cs nil p.good).children;
              expressions = and_right (in_expression c) (is_expression cs) (shaped (a_call c) q);
              stands = stands_second two (encode cs) (subst (Stands table at) (encode_node l cs) p.stands);
              binds = p.binds;
            };
            are = k.1;
          };
          many = n.arity;
          is = some-injective (interpret c k.0) t k.2;
          long = ap length (encode_node l cs) ∙ length-append two (encode cs);
        }

    pub is_ground_lem : (get_or table at (pos 0) ≡ pos variable_tag → ⊥) → (get_or table at (pos 0) ≡ pos call_tag → ⊥) → GroundHere e t
    is_ground_lem f h =
        let q = plain_tag l (term_count cs) good (λ z. f (words.first ∙ z)) (λ z. h (words.first ∙ z)) in
        let g : T (is_ground cs) = shaped plain q in
        let v : Path (Option Term) (some e) (some t) = sym (ap (λ (o : Option Forest). o >>= λ ys. some (record { label = l; children = ys })) (ground_value ρ cs g)) ∙ worth plain q in
        record {
          role_is = q;
          grounded = and_both (ground_at (role l) && is_ground cs) true (and_both (ground_at (role l)) (is_ground cs) (subst⁻¹ (λ (r : Role). T (ground_at r)) q tt) g) tt;
          is = some-injective e t v;
        }

    -- a tag below a variable's: a literal without children
    pub is_literal : lt_z (get_or table at (pos 0)) (pos variable_tag) ≡ true → GroundHere e t × (length (encode (single e)) ≡ 2)
    unfolding plain_children
    is_literal h = (is_ground_lem (λ p. low variable_tag p (omega arith)) (λ p. low call_tag p (omega arith)), ap (λ (f : Forest). length (encode (node l f nil))) (no_terms cs (pick (role l) (node_is l (term_count cs) good))))
      where
        low : (n : ℕ) → get_or table at (pos 0) ≡ pos n → variable_tag ≤ n → ⊥
        low n p i = let k : n < variable_tag = ltb-true n variable_tag (subst (λ (z : ℤ). lt_z z (pos variable_tag) ≡ true) p h) in omega arith

        small : (n : ℕ) → get_or table at (pos 0) ≡ pos n → cond (eqb n dictionary_tag) (2 * nat_abs (datum_word l)) (n - symbol_tag) ≡ 0
        small n p = let k : n < variable_tag = ltb-true n variable_tag (subst (λ (z : ℤ). lt_z z (pos variable_tag) ≡ true) p h) in rw (ne_eqb n dictionary_tag (λ q. omega arith)) (omega arith)

        pick : (r : Role) → NodeIs r (tag_word l (term_count cs)) (datum_word l) (term_count cs) → term_count cs ≡ 0
        pick (a_variable v) n = n.childless
        pick (a_call c) n = absurd (low call_tag (words.first ∙ n.tag) (omega arith))
        pick plain n = n.count ∙ (ap (λ (z : ℤ). plain_children z (datum_word l)) n.tag ∙ small n.number (words.first ∙ n.tag))

  -- ---- a list of expressions that is not empty: the first, and the rest behind it
  pub record MoreHere (es xs : Forest) : Type 0 where
    pub expression : Term
    pub rest : Forest
    pub term : Term
    pub terms : Forest
    pub first : HasValue table config starts ends at ρ expression term
    pub behind : HaveValues table config starts ends (at + length (encode (single expression))) ρ rest terms
    pub are : cons term terms ≡ xs
    pub first_is : first_of es ≡ single expression
    pub rest_is : rest_of es ≡ rest

  pub is_more : (es xs : Forest) → HaveValues table config starts ends at ρ es xs → true ≡ ltb 0 (term_count es) → MoreHere es xs
  is_more nil xs w z = absurd (let h : 0 < 0 = ltb→lt 0 0 (subst T z tt) in omega arith)
  is_more (node l cs ss) xs w z =
      let p = w.placed in
      let e : Term = record { label = l; children = cs } in
      let o = okay l cs ss p.good in
      let a = inner_at (role l) (is_expression cs) (is_ground cs) in
      let s : Stands table at (encode (single e) ++ encode ss) = subst (Stands table at) (encode_first l cs ss) p.stands in
      let k = came (value ρ e) (λ t. values ρ ss >>= λ f. some (cons t f)) xs w.are in
      let r = came (values ρ ss) (λ f. some (cons k.0 f)) xs k.2 in
      record {
        expression = e;
        rest = ss;
        term = k.0;
        terms = r.0;
        first = record {
          placed = record {
            good = okay_all l cs nil o.allowed o.children tt;
            expressions = and_both a true (and_left a (is_expression ss) p.expressions) tt;
            stands = stands_first (encode (single e)) (encode ss) s;
            binds = p.binds;
          };
          is = k.1;
        };
        behind = record {
          placed = record {
            good = o.rest;
            expressions = and_right a (is_expression ss) p.expressions;
            stands = stands_second (encode (single e)) (encode ss) s;
            binds = p.binds;
          };
          are = r.1;
        };
        are = some-injective (cons k.0 r.0) xs r.2;
        first_is = refl;
        rest_is = refl;
      }

  pub no_more : (es xs : Forest) → HaveValues table config starts ends at ρ es xs → false ≡ ltb 0 (term_count es) → (es ≡ nil) × (xs ≡ nil)
  no_more nil xs w e = (refl, sym (some-injective nil xs w.are))
  no_more (node l cs ss) xs w e = absurd (subst⁻¹ T e (lt→ltb 0 (suc (term_count ss)) (omega arith)))
