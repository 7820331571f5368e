-- A side condition holds exactly if the words of its sides' values are the same.
use mathlib.Core.Path.{◌≡◌, refl, sym, ◌∙◌, ap, ap₂, subst⁻¹}
use mathlib.Core.Bool.{Bool, true, false, ◌&&◌, true≢false}
use Rattle.std.proofs.Common as C
use Rattle.std.proofs.lemmas.Bool.Decides.{Decides-int_eq}
use mathlib.Core.Logic.{◌↔◌}
use mathlib.Core.Option.{Option, some}
use mathlib.Core.List.{List, [], ◌++◌}
use Prim.Native.Nat.{ℕ, ◌+◌, ◌-◌, ◌≤◌}
use native.Mathlib.Omega.{arith}
use lib.Dec.{T}
use lib.IntN.{ℤ, pos}
use lib.Signed.{lt_z}
use lib.ListN.{length, drop, get_or, length-take}
use Rattle.minuska.specs.Term.{Forest, nil, node, Term, leaf, single, term_count}
use Rattle.minuska.specs.Word.{encode}
use Rattle.minuska.specs.Computed.Read.{children_at}
use Rattle.minuska.specs.Satisfaction.{Valuation, SideCondition, Holds}
use Rattle.minuska.specs.Computed.Value.{value, agreeing, agree, holds}
use Rattle.minuska.specs.Bridge.Place.{part, Decides}
use Rattle.minuska.proofs.Tests.{single_injective}
use Rattle.minuska.proofs.WordLaw.{encode_injective}
use Rattle.minuska.proofs.ValueLaw.{agreeing_iff, holds_iff}
use Rattle.value.specs.Builtin.{label_at}
use Rattle.value.specs.Root.{Head}
use Rattle.value.specs.Value.{value_words, IsValue}
use Rattle.value.specs.Evaluate.{HasValue, Meant, EvaluateContract, ConditionAt, ConditionIn, ConditionMeant, ConditionContract}
use Rattle.value.specs.declared.Value.{Value}
use Rattle.value.specs.declared.Value.TheVariants.{Table}
use Rattle.value.specs.declared.Evaluated.{Evaluated}
use Rattle.value.specs.declared.builtin.Root.{Root}
use Rattle.value.proofs.ExpressionLaw.{no_terms}
use Rattle.value.proofs.CallLaw.{expression_room}
use Rattle.value.proofs.MeantLaw.{literal_meant}
use Rattle.value.proofs.RootLaw.{label_is, children_is}

decides_test : (a b : Bool) (P : Type 0) → Decides a P → T b ↔ P → a ≡ b
decides_test true true P d i = refl
decides_test true false P d i = absurd (i.1 (d.yes refl))
decides_test false true P d i = absurd (d.no refl (i.0 tt))
decides_test false false P d i = refl

module _ (table config : List ℤ) where
  -- two values agree exactly if their words are the same
  agreeing_words : (x y : Value) (s t : Term) → IsValue table config x s → IsValue table config y t → T (agreeing s t) ↔ (value_words table config x ≡ value_words table config y)
  agreeing_words x y s t i j = (
    (λ h. i.words ∙ (ap (λ (z : Term). encode (single z)) ((agreeing_iff s t).0 h) ∙ sym j.words)),
    λ e. (agreeing_iff s t).1 (single_injective s t (encode_injective (single s) (single t) i.good j.good (sym i.words ∙ (e ∙ j.words)))),
  )

  module _ (starts ends : List ℕ) (at : ℕ) where
    -- the second side stands where the first's value says
    second_has : (ρ : Valuation) (c : SideCondition) (w : ConditionAt table config starts ends at ρ c) (r : Evaluated) → Meant table config starts ends at c.first w.first r → HasValue table config starts ends r.next ρ c.second w.second
    second_has ρ c w r m = subst⁻¹ (λ (n : ℕ). HasValue table config starts ends n ρ c.second w.second) m.next w.second_has

    condition_meant : (ρ : Valuation) (c : SideCondition) (w : ConditionAt table config starts ends at ρ c) (r q : Evaluated) → Meant table config starts ends at c.first w.first r → Meant table config starts ends r.next c.second w.second q → (b : Bool) → Decides b (value_words table config r.value ≡ value_words table config q.value) → ConditionMeant table config starts ends at ρ c (record { holds = b; next = q.next })
    condition_meant ρ c w r q m n b d =
        let e : holds ρ c ≡ agreeing w.first w.second =
        ap (λ (o : Option Term). agree o (value ρ c.second)) w.first_has.is ∙ ap (λ (o : Option Term). agree (some w.first) o) w.second_has.is in
        let h : b ≡ holds ρ c = decides_test b (agreeing w.first w.second) _ d (agreeing_words r.value q.value w.first w.second m.is n.is) ∙ sym e in
        let k = m.next in
        let l = n.next in
        record {
          holds = h;
          satisfied = subst⁻¹ (λ (x : Bool). T x ↔ Holds ρ c) h (holds_iff ρ c w.first_has.placed.expressions w.second_has.placed.expressions);
          next = omega arith;
        }

    -- a condition whose first side is evaluated
    module _ (r : Evaluated) (v : EvaluateContract table config starts ends at r) where
      pub first_meant : (ρ : Valuation) (c : SideCondition) (w : ConditionAt table config starts ends at ρ c) → Meant table config starts ends at c.first w.first r
      first_meant ρ c w = v.meant ρ c.first w.first w.first_has

      pub behind : (ρ : Valuation) (c : SideCondition) (w : ConditionAt table config starts ends at ρ c) → HasValue table config starts ends r.next ρ c.second w.second
      behind ρ c w = second_has ρ c w r (first_meant ρ c w)

      pub behind_room : ConditionIn table config starts ends at → r.next + 2 ≤ length table
      behind_room h = expression_room table config starts ends r.next h.valuation h.condition.second h.stands.second (behind h.valuation h.condition h.stands)

      -- the second a literal without children
      module _ (low : lt_z (get_or table r.next (pos 0)) (pos 3) ≡ true) where
        pub literal : (ρ : Valuation) (c : SideCondition) (w : ConditionAt table config starts ends at ρ c) → Meant table config starts ends r.next c.second w.second (record { value = Table (record { from = r.next; to = r.next + 2 }); next = r.next + 2 })
        literal ρ c w = literal_meant table config starts ends r.next ρ c.second w.second (behind ρ c w) low

        pub by_node : (b : Bool) → Decides b (value_words table config r.value ≡ value_words table config (Table (record { from = r.next; to = r.next + 2 }))) → ConditionContract table config starts ends at (record { holds = b; next = r.next + 2 })
        by_node b d = record { meant = λ ρ c w. condition_meant ρ c w r _ (first_meant ρ c w) (literal ρ c w) b d }

      -- the second evaluated too
      module _ (q : Evaluated) (u : EvaluateContract table config starts ends r.next q) where
        pub second_meant : (ρ : Valuation) (c : SideCondition) (w : ConditionAt table config starts ends at ρ c) → Meant table config starts ends r.next c.second w.second q
        second_meant ρ c w = u.meant ρ c.second w.second (behind ρ c w)

        pub by_values : (b : Bool) → Decides b (value_words table config r.value ≡ value_words table config q.value) → ConditionContract table config starts ends at (record { holds = b; next = q.next })
        by_values b d = record { meant = λ ρ c w. condition_meant ρ c w r q (first_meant ρ c w) (second_meant ρ c w) b d }

-- ---- one node: a value is it where their roots are the same
leaf_is : (t : Term) → term_count t.children ≡ 0 → leaf t.label ≡ t
leaf_is t e = ap (λ (f : Forest). record { label = t.label; children = f }) (sym (no_terms t.children e))

module _ (a b : Root) (s t : Term) (h : Head a s.label (term_count s.children)) (k : Head b t.label (term_count t.children)) (n : term_count t.children ≡ 0) where
  same_roots : a.tag ≡ b.tag → a.datum ≡ b.datum → s ≡ t
  same_roots p q =
      let l : s.label ≡ t.label = sym (label_is a _ _ h) ∙ (ap₂ label_at p q ∙ label_is b _ _ k) in
      let m : term_count s.children ≡ 0 = children_is a _ _ h ∙ (ap₂ children_at p q ∙ (sym (children_is b _ _ k) ∙ n)) in
      sym (leaf_is s m) ∙ (ap leaf l ∙ leaf_is t n)

  pub roots_decide : (c : Bool) → Decides c (a ≡ b) → Decides c (encode (single s) ≡ encode (single t))
  roots_decide c d =
      record {
        yes = λ e. let r = d.yes e in ap (λ (x : Term). encode (single x)) (same_roots (ap (λ (x : Root). x.tag) r) (ap (λ (x : Root). x.datum) r));
        no = λ e f.
            let p : a.tag ≡ b.tag = h.tag ∙ (ap (λ (ws : List ℤ). get_or ws 0 (pos 0)) f ∙ sym k.tag) in
            let q : a.datum ≡ b.datum = h.datum ∙ (ap (λ (ws : List ℤ). get_or ws 1 (pos 0)) f ∙ sym k.datum) in
            d.no e (ap₂ (λ (x y : ℤ). record { tag = x; datum = y }) p q);
      }

-- a part of two words is one node
one_node : (ws : List ℤ) (at : ℕ) (t : Term) → part ws at (at + 2) ≡ encode (single t) → term_count t.children ≡ 0
one_node ws at t e =
    let h : length (part ws at (at + 2)) ≡ length (encode (single t)) = ap length e in
    let l = length-take (at + 2 - at) (drop at ws) in
    few t.children (omega arith)
  where
    few : (cs : Forest) → length (encode cs ++ []) ≤ 0 → term_count cs ≡ 0
    few nil h = refl
    few (node l cs ss) h = absurd (let z : ⊥ = omega arith in z)

pub node_alone : (table config : List ℤ) (at : ℕ) (t : Term) → IsValue table config (Table (record { from = at; to = at + 2 })) t → term_count t.children ≡ 0
unfolding value_words
node_alone table config at t i = one_node table at t i.words

-- two roots as `==` compares them
both_decide : (a b : Root) (s u : Bool) → C.Decides s (a.tag ≡ b.tag) → C.Decides u (a.datum ≡ b.datum) → Decides (s && u) (a ≡ b)
both_decide a b true true d e = record { yes = λ p. ap₂ (λ (x y : ℤ). record { tag = x; datum = y }) (d.0 refl) (e.0 refl); no = λ p q. absurd (true≢false p) }
both_decide a b true false d e = record { yes = λ p. absurd (true≢false (sym p)); no = λ p q. true≢false (sym (e.1 (ap (λ (r : Root). r.datum) q))) }
both_decide a b false u d e = record { yes = λ p. absurd (true≢false (sym p)); no = λ p q. true≢false (sym (d.1 (ap (λ (r : Root). r.tag) q))) }

pub same_roots_decide : (a b : Root) (c : Bool) → c ≡ (C.int_eq a.tag b.tag && C.int_eq a.datum b.datum) → Decides c (a ≡ b)
same_roots_decide a b c e = rw e (both_decide a b _ _ (Decides-int_eq a.tag b.tag) (Decides-int_eq a.datum b.datum))
