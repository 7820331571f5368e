-- An update in a right: three expressions behind its own two words, and the words of its value.
use mathlib.Core.Path.{◌≡◌, refl, sym, ◌∙◌, ap, subst, subst⁻¹, subst₂}
use mathlib.Core.List.{List, [], ◌∷◌, ◌++◌}
use Prim.Native.Nat.{ℕ, suc, ◌+◌, ◌≤◌, ◌<◌}
use native.Mathlib.Omega.{arith}
use lib.Dec.{T, ltb}
use lib.IntN.{ℤ, pos, nat_abs}
use lib.ListN.{length, length-append}
use Rattle.minuska.specs.Term.{Label, Forest, nil, node, Term, cons, single, term_count, Role}
use Rattle.minuska.specs.Word.{tag_word, datum_word, encode}
use Rattle.minuska.specs.Function.{function_at, interpret}
use Rattle.minuska.specs.Satisfaction.{Valuation}
use Rattle.minuska.specs.Rule.{updating, expression_at, is_expression, is_expression_term}
use Rattle.minuska.specs.Computed.Read.{call_tag}
use Rattle.minuska.proofs.NodeLaw.{call_tag_lem}
use Rattle.minuska.proofs.WordLaw.{okay}
use Rattle.minuska.proofs.Bridge.ItemLaw.{call_item}
use Rattle.minuska.proofs.Bridge.PlaceLaw.{stands_first, stands_second, stands_word}
use Rattle.value.specs.declared.Evaluated.{Evaluated}
use Rattle.value.specs.Root.{ValueIn}
use Rattle.value.specs.Value.{value_words, Within}
use Rattle.value.specs.Update.{plan_words, PlanContract}
use Rattle.value.specs.declared.update.Plan.{Plan}
use Rattle.std.specs.Prelude.{Option}
use Rattle.value.specs.Evaluate.{HasValue, HaveValues, ExpressionIn, EvaluateContract, first_of, rest_of}
use Rattle.value.proofs.ExpressionLaw.{encode_first, is_more, no_more}
use Rattle.step.specs.Right.{Rest, SomeRest, LeadsOn, SizedIs, WordsAre, FittingItem, IsUpdate, PartsAre}
use Rattle.step.specs.declared.right.Parts.{Parts}
use Rattle.step.proofs.MatchingLaw.{word}
use Rattle.step.proofs.RightLaw.{first, in_range, expression_shape, leads_on}

-- ---- a list that is not empty: what is left behind its first term
rest_count : (es : Forest) (m : ℕ) → term_count es ≡ suc m → term_count (rest_of es) ≡ m
rest_count nil m e = absurd (let f : ⊥ = omega arith in f)
rest_count (node l cs ss) m e = omega arith

split_words : (es : Forest) → length (encode es) ≡ length (encode (first_of es)) + length (encode (rest_of es))
split_words nil = refl
split_words (node l cs ss) = ap length (encode_first l cs ss) ∙ length-append (encode (node l cs nil)) (encode ss)

abbrev size : Term → ℕ
size t = length (encode (single t))

record UpdateItem (ws cs : List ℤ) (starts ends : List ℕ) (at end : ℕ) (ρ : Valuation) (us : List ℤ) : Type 0 where
  one : Term
  two : Term
  three : Term
  dictionary : Term
  key : Term
  term : Term
  one_has : HasValue ws cs starts ends (at + 2) ρ one dictionary
  two_has : HasValue ws cs starts ends (at + 2 + size one) ρ two key
  three_has : HasValue ws cs starts ends (at + 2 + size one + size two) ρ three term
  leads : LeadsOn ws cs starts ends at end ρ us (encode (single (interpret updating (cons dictionary (cons key (single term)))))) (at + 2 + size one + size two + size three)

module _ {ws cs : List ℤ} {starts ends : List ℕ} {at end : ℕ} {ρ : Valuation} {l : Label} {ls ss : Forest} {us : List ℤ} (r : Rest ws cs starts ends at end ρ (node l ls ss) us) (tag : tag_word l (term_count ls) ≡ pos call_tag) (code : word ws (at + 1) ≡ pos updating) where
  update_here : UpdateItem ws cs starts ends at end ρ us
  update_here =
      let (c, k, n) = call_tag_lem l (term_count ls) (in_range r) tag in
      let i = call_item ρ l ls ss us r.emits c k in
      let x : T (is_expression ls) = subst (λ (z : Role). T (expression_at z (is_expression ls) (is_expression_term ls))) k (expression_shape r) in
      let d : word ws (at + 1) ≡ pos c = stands_word r.stands 1 (pos 0) (omega arith) ∙ n.datum in
      let same : c ≡ updating = ap nat_abs (sym d ∙ code) in
      let count : term_count ls ≡ 3 = n.arity ∙ ap (λ (m : ℕ). (function_at m).arity) same in
      let h : HaveValues ws cs starts ends (at + 2) ρ ls i.0 = record { placed = record { good = (okay l ls ss r.good).children; expressions = x; stands = stands_first (encode ls) (encode ss) (stands_second (tag_word l (term_count ls) ∷ datum_word l ∷ []) (encode ls ++ encode ss) r.stands); binds = r.binds }; are = i.2 } in
      let a = is_more ws cs starts ends (at + 2) ρ ls i.0 h (sym (ap (λ (m : ℕ). ltb 0 m) count)) in
      let count₂ : term_count a.rest ≡ 2 = sym (ap term_count a.rest_is) ∙ rest_count ls 2 count in
      let b = is_more ws cs starts ends (at + 2 + size a.expression) ρ a.rest a.terms a.behind (sym (ap (λ (m : ℕ). ltb 0 m) count₂)) in
      let count₃ : term_count b.rest ≡ 1 = sym (ap term_count b.rest_is) ∙ rest_count a.rest 1 count₂ in
      let e = is_more ws cs starts ends (at + 2 + size a.expression + size b.expression) ρ b.rest b.terms b.behind (sym (ap (λ (m : ℕ). ltb 0 m) count₃)) in
      let count₄ : term_count e.rest ≡ 0 = sym (ap term_count e.rest_is) ∙ rest_count b.rest 0 count₃ in
      let z = no_more ws cs starts ends (at + 2 + size a.expression + size b.expression + size e.expression) ρ e.rest e.terms e.behind (sym (ap (λ (m : ℕ). ltb 0 m) count₄)) in
      let all : cons a.term (cons b.term (single e.term)) ≡ i.0 =
      ap (λ (f : Forest). cons a.term (cons b.term (cons e.term f))) (sym z.1) ∙ (ap (λ (f : Forest). cons a.term (cons b.term f)) e.are ∙ (ap (λ (f : Forest). cons a.term f) b.are ∙ a.are)) in
      let many : at + length (encode (node l ls nil)) ≡ at + 2 + size a.expression + size b.expression + size e.expression =
      omega (arith, length-append (encode ls) [], split_words ls, split_words a.rest, split_words b.rest, ap (λ (f : Forest). length (encode f)) a.first_is, ap (λ (f : Forest). length (encode f)) a.rest_is, ap (λ (f : Forest). length (encode f)) b.first_is, ap (λ (f : Forest). length (encode f)) b.rest_is, ap (λ (f : Forest). length (encode f)) e.first_is, ap (λ (f : Forest). length (encode f)) e.rest_is, ap (λ (f : Forest). length (encode f)) z.0) in
      let said : encode (single (interpret c i.0)) ≡ encode (single (interpret updating (cons a.term (cons b.term (single e.term))))) =
      ap (λ (m : ℕ). encode (single (interpret m i.0))) same ∙ ap (λ (f : Forest). encode (single (interpret updating f))) (sym all) in
      record {
        one = a.expression;
        two = b.expression;
        three = e.expression;
        dictionary = a.term;
        key = b.term;
        term = e.term;
        one_has = a.first;
        two_has = b.first;
        three_has = e.first;
        leads = subst₂ (λ (vs : List ℤ) (m : ℕ). LeadsOn ws cs starts ends at end ρ us vs m) said many (leads_on r (interpret c i.0) i.1 i.3 i.4);
      }

-- ---- `update_parts`: one argument after the other
module _ (ws cs : List ℤ) (starts ends : List ℕ) (at end : ℕ) (below : at < end) (u : IsUpdate ws at) where
  the_update : {ρ : Valuation} (f : Forest) {us : List ℤ} → Rest ws cs starts ends at end ρ f us → UpdateItem ws cs starts ends at end ρ us
  the_update f r = first f below r λ l ls ss k t. update_here k (sym t ∙ u.call) u.code

  pub first_needs : SomeRest ws cs starts ends at end → ExpressionIn ws cs starts ends (at + 2)
  first_needs s = let g = the_update s.terms s.is in record { valuation = s.valuation; expression = g.one; term = g.dictionary; has = g.one_has }

  module _ (x : Evaluated) (cx : EvaluateContract ws cs starts ends (at + 2) x) where
    second_has : {ρ : Valuation} {us : List ℤ} (g : UpdateItem ws cs starts ends at end ρ us) → HasValue ws cs starts ends x.next ρ g.two g.key
    second_has {ρ} g = subst⁻¹ (λ (m : ℕ). HasValue ws cs starts ends m ρ g.two g.key) (cx.meant ρ g.one g.dictionary g.one_has).next g.two_has

    pub second_needs : SomeRest ws cs starts ends at end → ExpressionIn ws cs starts ends x.next
    second_needs s = let g = the_update s.terms s.is in record { valuation = s.valuation; expression = g.two; term = g.key; has = second_has g }

    module _ (y : Evaluated) (cy : EvaluateContract ws cs starts ends x.next y) where
      third_at : {ρ : Valuation} {us : List ℤ} (g : UpdateItem ws cs starts ends at end ρ us) → y.next ≡ at + 2 + size g.one + size g.two
      third_at {ρ} g = (cy.meant ρ g.two g.key (second_has g)).next ∙ ap (λ (m : ℕ). m + size g.two) (cx.meant ρ g.one g.dictionary g.one_has).next

      third_has : {ρ : Valuation} {us : List ℤ} (g : UpdateItem ws cs starts ends at end ρ us) → HasValue ws cs starts ends y.next ρ g.three g.term
      third_has {ρ} g = subst⁻¹ (λ (m : ℕ). HasValue ws cs starts ends m ρ g.three g.term) (third_at g) g.three_has

      pub third_needs : SomeRest ws cs starts ends at end → ExpressionIn ws cs starts ends y.next
      third_needs s = let g = the_update s.terms s.is in record { valuation = s.valuation; expression = g.three; term = g.term; has = third_has g }

      pub parts_are : (z : Evaluated) → EvaluateContract ws cs starts ends y.next z → PartsAre ws cs starts ends at end (record { dictionary = x.value; key = y.value; term = z.value; next = z.next })
      parts_are z cz =
          record {
            is = λ ρ f us r.
                let g = the_update f r in
                let m = cz.meant ρ g.three g.term (third_has g) in
                let e : z.next ≡ at + 2 + size g.one + size g.two + size g.three = m.next ∙ ap (λ (j : ℕ). j + size g.three) (third_at g) in
                record {
                  dictionary = g.dictionary;
                  key = g.key;
                  term = g.term;
                  is_dictionary = (cx.meant ρ g.one g.dictionary g.one_has).is;
                  is_key = (cy.meant ρ g.two g.key (second_has g)).is;
                  is_term = m.is;
                  leads = subst⁻¹ (λ (j : ℕ). LeadsOn ws cs starts ends at end ρ us (encode (single (interpret updating (cons g.dictionary (cons g.key (single g.term)))))) j) e g.leads;
                };
          }

-- ---- `update_size`, `write_update`: from the plan, whatever terms the arguments' values are, to the item
module _ (ws cs : List ℤ) (starts ends : List ℕ) (at end : ℕ) (p : Parts) (x : PartsAre ws cs starts ends at end p) where
  -- what the functions of `value::update` ask of the values
  pub parts_values : SomeRest ws cs starts ends at end → ValueIn ws cs p.dictionary × ValueIn ws cs p.key × Within ws cs p.term
  parts_values s = let g = x.is s.valuation s.terms s.words s.is in (record { term = g.dictionary; is = g.is_dictionary }, record { term = g.key; is = g.is_key }, g.is_term.within)

  module _ (plan : Option Plan) (k : PlanContract ws cs p.dictionary p.key plan) where
    abbrev planned : List ℤ → List ℤ
    planned vs = plan_words (value_words ws cs p.dictionary) plan vs

    abbrev update_words : List ℤ
    update_words = planned (value_words ws cs p.term)

    pub parts_words : WordsAre ws cs starts ends at end update_words p.next
    parts_words =
        record { is = λ ρ f us r. let g = x.is ρ f us r in subst (λ (ys : List ℤ). LeadsOn ws cs starts ends at end ρ us ys p.next) (k.is g.dictionary g.key g.term g.is_dictionary g.is_key ∙ ap planned (sym g.is_term.words)) g.leads }

    pub parts_sized : (n : ℕ) → n ≡ length update_words → SizedIs ws cs starts ends at end (record { words = n; next = p.next })
    parts_sized n e = record { is = λ ρ f us r. record { first = update_words; many = e; leads = parts_words.is ρ f us r } }

    pub parts_room : (room : ℕ) → FittingItem ws cs starts ends at end room → length update_words ≤ room
    parts_room room f =
        let i = f.rest in
        let g = parts_words.is i.valuation i.terms i.words i.is in
        omega (arith, ap length g.parted, length-append update_words g.words, f.fit)
