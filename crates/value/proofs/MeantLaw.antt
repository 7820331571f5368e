-- What is returned means what stands there.
use mathlib.Core.Path.{◌≡◌, refl, sym, ◌∙◌, ap, subst, subst⁻¹}
use mathlib.Core.List.{List}
use Prim.Native.Nat.{ℕ, suc, ◌+◌, ◌-◌, ◌≤◌}
use native.Mathlib.Omega.{arith}
use lib.Dec.{T, ltb, leb-suc-suc}
use mathlib.Core.Bool.{true}
use lib.IntN.{ℤ, pos}
use lib.Signed.{lt_z}
use lib.ListN.{length, take, drop, get_or, length-append}
use borrow.Author.Tests.{lt-ltb, le-ltb}
use Rattle.minuska.specs.Term.{Label, error, Forest, nil, node, Term, cons, single, term_count, Role, a_variable, a_call, plain, role, is_ground}
use Rattle.minuska.specs.Word.{ok, encode}
use Rattle.minuska.specs.Function.{argument, interpret}
use Rattle.minuska.specs.Satisfaction.{Valuation}
use Rattle.minuska.specs.Bridge.Place.{part, Stands}
use Rattle.minuska.proofs.ValueLaw.{value_iff_evaluates}
use Rattle.minuska.specs.Bridge.Walk.{looking}
use Rattle.value.specs.Builtin.{root_of, applied, ByRoots}
use Rattle.value.specs.Root.{PartOrError}
use Rattle.value.specs.Value.{value_words, Within, IsValue}
use Rattle.value.specs.Evaluate.{HasValue, HaveValues, Where, Meant, EvaluateContract, FirstMeant, first_of, first_term, rest_of}
use Rattle.term.specs.declared.Span.{Span}
use Rattle.value.specs.declared.Value.{Value}
use Rattle.value.specs.declared.Value.TheVariants.{Table, Configuration, Computed}
use Rattle.value.specs.declared.Evaluated.{Evaluated}
use Rattle.value.proofs.GivenLaw.{given_is, given_root}
use Rattle.value.proofs.ExpressionLaw.{encode_first, VariableHere, CallHere, GroundHere, MoreHere, is_literal, is_more, no_more}

-- words that stand up to a place are the part up to there
part_of : (ws : List ℤ) (from to : ℕ) (xs : List ℤ) → Stands ws from xs → to ≡ from + length xs → part ws from to ≡ xs
part_of ws from to xs s e = let n : to - from ≡ length xs = omega arith in ap (λ (k : ℕ). take k (drop from ws)) n ∙ s.words

-- a list of at most three, as three firsts
pub one_fewer : (es : Forest) (k : ℕ) → ltb (suc k) (term_count es) ≡ ltb k (term_count (rest_of es))
one_fewer nil k = le-ltb (suc k) 0 (omega arith) ∙ sym (le-ltb k 0 (omega arith))
one_fewer (node l cs ss) k = leb-suc-suc (suc k) (term_count ss)

next_argument : (xs : Forest) (i : ℕ) → argument (suc i) xs ≡ argument i (rest_of xs)
next_argument nil i = refl
next_argument (node l cs ss) i = refl

first_label : (xs : Forest) → (first_term xs).label ≡ argument 0 xs
first_label nil = refl
first_label (node l cs ss) = refl

-- three roots are those of the list's first three terms
pub roots_are : (xs : Forest) (a b d : Label) → a ≡ (first_term xs).label → b ≡ (first_term (rest_of xs)).label → d ≡ (first_term (rest_of (rest_of xs))).label → (c : ℕ) → applied c a b d ≡ applied c (argument 0 xs) (argument 1 xs) (argument 2 xs)
roots_are xs a b d p q r c =
    rw (p, q, r) (rw (next_argument xs 0, next_argument xs 1, next_argument (rest_of xs) 0, ← first_label xs, ← first_label (rest_of xs), ← first_label (rest_of (rest_of xs))) refl)

pub first_long : (es : Forest) → length (encode es) ≡ length (encode (first_of es)) + length (encode (rest_of es))
first_long nil = refl
first_long (node l cs ss) = ap length (encode_first l cs ss) ∙ length-append (encode (node l cs nil)) (encode ss)

none_left : (es : Forest) → term_count es ≤ 0 → length (encode es) ≡ 0
none_left nil h = refl
none_left (node l cs ss) h = absurd (let z : ⊥ = omega arith in z)

rest_few : (es : Forest) (k : ℕ) → term_count es ≤ suc k → term_count (rest_of es) ≤ k
rest_few nil k h = omega arith
rest_few (node l cs ss) k h = omega arith

pub three_long : (es : Forest) → term_count es ≤ 3 → length (encode es) ≡ length (encode (first_of es)) + length (encode (first_of (rest_of es))) + length (encode (first_of (rest_of (rest_of es))))
three_long es h =
    let a = first_long es in
    let b = first_long (rest_of es) in
    let c = first_long (rest_of (rest_of es)) in
    let d = none_left (rest_of (rest_of (rest_of es))) (rest_few (rest_of (rest_of es)) 0 (rest_few (rest_of es) 1 (rest_few es 2 h))) in
    omega arith

-- a lookup looks at its first two arguments
two_looked : (xs : Forest) → interpret looking xs ≡ interpret looking (cons (first_term xs) (single (first_term (rest_of xs))))
two_looked nil = refl
two_looked (node l cs nil) = refl
two_looked (node l cs (node m ms ss)) = refl

module _ (table config : List ℤ) where
  pub table_value : (t : Term) (from to : ℕ) → T (ok (single t)) → T (is_ground (single t)) → Stands table from (encode (single t)) → to ≡ from + length (encode (single t)) → IsValue table config (Table (record { from = from; to = to })) t
  unfolding value_words Within
  table_value t from to o g s e =
      let w = s.within in
      record { good = o; grounded = g; words = part_of table from to (encode (single t)) s e; within = (omega arith, omega arith) }

  pub configuration_value : (t : Term) (from to : ℕ) → T (ok (single t)) → T (is_ground (single t)) → Stands config from (encode (single t)) → to ≡ from + length (encode (single t)) → IsValue table config (Configuration (record { from = from; to = to })) t
  unfolding value_words Within
  configuration_value t from to o g s e =
      let w = s.within in
      record { good = o; grounded = g; words = part_of config from to (encode (single t)) s e; within = (omega arith, omega arith) }

  module _ (starts ends : List ℕ) (at : ℕ) (ρ : Valuation) where
    -- where the value is, from the expression's role
    placed : (e t : Term) (r : Evaluated) (y : Role) → role e.label ≡ y → Where table config starts ends at y t r → Where table config starts ends at (role e.label) t r
    placed e t r y q w = subst⁻¹ (λ (z : Role). Where table config starts ends at z t r) q w

    -- a variable's, from its number and what was read in the arrays there
    pub variable_meant : (e t : Term) (v : VariableHere table config starts ends at ρ e t) (i : ℕ) → i ≡ v.number → (p : Span) → p ≡ record { from = get_or starts i 0; to = get_or ends i 0 } → Meant table config starts ends at e t (record { value = Configuration p; next = at + 2 })
    variable_meant e t v i q p s =
        let b = v.bound in
        rw (s, q)
        (record { is = configuration_value t _ _ b.good b.grounded b.stands b.ends; place = placed e t _ (a_variable v.number) v.role_is refl; next = ap (λ (n : ℕ). at + n) (sym v.long) })

    pub ground_meant : (e t : Term) → HasValue table config starts ends at ρ e t → GroundHere table config starts ends at ρ e t → (r : ℕ) → r ≡ at + length (encode (single e)) → Meant table config starts ends at e t (record { value = Table (record { from = at; to = r }); next = r })
    ground_meant e t w g r q =
        record {
          is = subst (λ (y : Term). IsValue table config (Table (record { from = at; to = r })) y) g.is (table_value e at r w.placed.good g.grounded w.placed.stands q);
          place = placed e t (record { value = Table (record { from = at; to = r }); next = r }) plain g.role_is refl;
          next = q;
        }

    -- a literal without children
    pub literal_meant : (e t : Term) → HasValue table config starts ends at ρ e t → lt_z (get_or table at (pos 0)) (pos 3) ≡ true → Meant table config starts ends at e t (record { value = Table (record { from = at; to = at + 2 }); next = at + 2 })
    literal_meant e t w h = let g = is_literal table config starts ends at ρ e t w h in ground_meant e t w g.0 (at + 2) (ap (λ (n : ℕ). at + n) (sym g.1))

    -- ---- a call: its value is what its function gives
    pub call_meant : (e t : Term) (k : CallHere table config starts ends at ρ e t) → (k.code ≡ looking → ⊥) → (r : Evaluated) → r.value ≡ Computed (root_of (applied k.code (argument 0 k.terms) (argument 1 k.terms) (argument 2 k.terms))) → r.next ≡ at + length (encode (single e)) → Meant table config starts ends at e t r
    call_meant e t k f r q n =
        let b : ByRoots k.code = (f, k.no_update) in
        record {
          is = subst (IsValue table config r.value) k.is (subst⁻¹ (λ (v : Value). IsValue table config v (interpret k.code k.terms)) q (given_is table config k.code k.terms b));
          place = placed e t r (a_call k.code) k.role_is
              (record { computed = λ g. q ∙ ap (λ (l : Label). Computed (root_of l)) (given_root table config k.code k.terms b ∙ ap (λ (y : Term). y.label) k.is); looked = λ g. absurd (f g) });
          next = n;
        }

    -- a lookup: what was found with its first two arguments
    pub lookup_meant : (e t : Term) (k : CallHere table config starts ends at ρ e t) → k.code ≡ looking → (r : Evaluated) → IsValue table config r.value (interpret looking (cons (first_term k.terms) (single (first_term (rest_of k.terms))))) → PartOrError r.value → r.next ≡ at + length (encode (single e)) → Meant table config starts ends at e t r
    lookup_meant e t k c r i p n =
        record {
          is = subst (IsValue table config r.value) (sym (two_looked k.terms) ∙ (ap (λ (m : ℕ). interpret m k.terms) (sym c) ∙ k.is)) i;
          place = placed e t r (a_call k.code) k.role_is (record { computed = λ g. absurd (g c); looked = λ g. p });
          next = n;
        }

    -- ---- the first of a list
    pub none_first : (es xs : Forest) → (es ≡ nil) × (xs ≡ nil) → FirstMeant table config starts ends at es xs (record { value = Computed (root_of error); next = at })
    unfolding value_words Within root_of
    none_first es xs q = rw (q.0, q.1) (record { is = record { good = tt; grounded = tt; words = refl; within = tt }; next = omega arith })

    pub some_first : (es xs : Forest) (m : MoreHere table config starts ends at ρ es xs) (r : Evaluated) → Meant table config starts ends at m.expression m.term r → FirstMeant table config starts ends at es xs r
    some_first es xs m r k =
        record {
          is = subst (λ (f : Forest). IsValue table config r.value (first_term f)) m.are k.is;
          next = k.next ∙ ap (λ (f : Forest). at + length (encode f)) (sym m.first_is);
        }

    -- the rest stands behind it
    pub rest_behind : (es xs : Forest) → HaveValues table config starts ends at ρ es xs → (r : Evaluated) → FirstMeant table config starts ends at es xs r → HaveValues table config starts ends r.next ρ (rest_of es) (rest_of xs)
    rest_behind nil xs w r f =
        let n = no_more table config starts ends at ρ nil xs w refl in
        let e : r.next ≡ at = (let q = f.next in omega arith) in
        rw (e, n.1) (rw n.1 at w)
    rest_behind (node l cs ss) xs w r f =
        let m = is_more table config starts ends at ρ (node l cs ss) xs w (sym (lt-ltb 0 (suc (term_count ss)) (omega arith))) in
        let q : r.next ≡ at + length (encode (single m.expression)) = f.next ∙ ap (λ (g : Forest). at + length (encode g)) m.first_is in
        subst⁻¹ (λ (n : ℕ). HaveValues table config starts ends n ρ ss (rest_of xs)) q
        (subst⁻¹ (λ (g : Forest). HaveValues table config starts ends (at + length (encode (single m.expression))) ρ g (rest_of xs)) m.rest_is
        (subst (λ (g : Forest). HaveValues table config starts ends (at + length (encode (single m.expression))) ρ m.rest (rest_of g)) m.are m.behind))

  -- the contract, from what is meant: the relation ⊨E says no more than the value does
  pub evaluated : (starts ends : List ℕ) (at : ℕ) (r : Evaluated) → ((ρ : Valuation) (e t : Term) → HasValue table config starts ends at ρ e t → Meant table config starts ends at e t r) → EvaluateContract table config starts ends at r
  evaluated starts ends at r f =
      record { meant = f; satisfied = λ ρ e t p h. (f ρ e t (record { placed = p; is = (value_iff_evaluates ρ e t p.expressions).1 h })).is.words }
