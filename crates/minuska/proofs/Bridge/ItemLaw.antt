-- A right in preorder, item by item: a plain node's two words, a variable's term, or a call's value; and what is left of the right behind it.
use mathlib.Core.Path.{◌≡◌, sym, ◌∙◌, ap, subst}
use mathlib.Core.Option.{Option, some, some-injective}
use mathlib.Core.List.{List, ◌∷◌, ◌++◌, append_assoc}
use Prim.Native.Nat.{ℕ}
use lib.IntN.{ℤ}
use lib.Dec.{T}
use Rattle.minuska.specs.Basics.{◌>>=◌}
use Rattle.minuska.specs.Term.{Label, Forest, nil, node, Term, single, term_count, Role, a_variable, a_call, plain, role}
use Rattle.minuska.specs.Word.{tag_word, datum_word, encode}
use Rattle.minuska.specs.Function.{interpret}
use Rattle.minuska.specs.Satisfaction.{Valuation}
use Rattle.minuska.specs.Rule.{expression_at, is_expression, is_expression_term}
use Rattle.minuska.specs.Computed.Value.{values}
use Rattle.minuska.specs.Bridge.Walk.{emit_at, emit}
use Rattle.minuska.proofs.Tests.{came, and_left, and_right, and_both}
use Rattle.minuska.proofs.WordLaw.{appended}

-- ---- two lists of terms, one behind the other
pub emit_appended : (ρ : Valuation) (f g : Forest) (us ws : List ℤ) → emit ρ f ≡ some us → emit ρ g ≡ some ws → emit ρ (appended f g) ≡ some (us ++ ws)
emit_appended ρ nil g us ws e i = subst (λ (x : List ℤ). emit ρ g ≡ some (x ++ ws)) (some-injective _ us e) i
emit_appended ρ (node l cs ss) g us ws e i =
    let c = came (emit_at ρ (role l) l (term_count cs) (values ρ cs) (emit ρ cs)) (λ x. emit ρ ss >>= λ y. some (x ++ y)) us e in
    let d = came (emit ρ ss) (λ y. some (c.0 ++ y)) us c.2 in
    ap (λ (o : Option (List ℤ)). o >>= λ x. emit ρ (appended ss g) >>= λ y. some (x ++ y)) c.1 ∙
    (ap (λ (o : Option (List ℤ)). o >>= λ y. some (c.0 ++ y)) (emit_appended ρ ss g d.0 ws d.1 i) ∙
    ap {B = Option (List ℤ)} some (sym (append_assoc c.0 d.0 ws) ∙ ap (λ (x : List ℤ). x ++ ws) (some-injective (c.0 ++ d.0) us d.2)))

pub term_appended : (f g : Forest) → T (is_expression_term f) → T (is_expression_term g) → T (is_expression_term (appended f g))
term_appended nil g x y = y
term_appended (node l cs ss) g x y =
    let a = expression_at (role l) (is_expression cs) (is_expression_term cs) in
    let b = is_expression_term ss in
    and_both a (is_expression_term (appended ss g)) (and_left a b x) (term_appended ss g (and_right a b x) y)

-- ---- one item, by the first node's role
module _ (ρ : Valuation) (l : Label) (cs ss : Forest) (ws : List ℤ) (e : emit ρ (node l cs ss) ≡ some ws) where
  -- what the first term emits, and the terms behind it
  pub parted : (us : List ℤ) × (rest : List ℤ) × (emit_at ρ (role l) l (term_count cs) (values ρ cs) (emit ρ cs) ≡ some us) × (emit ρ ss ≡ some rest) × (us ++ rest ≡ ws)
  parted =
      let c = came (emit_at ρ (role l) l (term_count cs) (values ρ cs) (emit ρ cs)) (λ x. emit ρ ss >>= λ y. some (x ++ y)) ws e in
      let d = came (emit ρ ss) (λ y. some (c.0 ++ y)) ws c.2 in
      (c.0, d.0, c.1, d.1, some-injective (c.0 ++ d.0) ws d.2)

  pub variable_item : (v : ℕ) → role l ≡ a_variable v → (t : Term) × (rest : List ℤ) × (ρ v ≡ some t) × (encode (single t) ++ rest ≡ ws) × (emit ρ ss ≡ some rest)
  variable_item v r =
      let p = parted in
      let q = came (ρ v) (λ t. some (encode (single t))) p.0 (subst (λ (z : Role). emit_at ρ z l (term_count cs) (values ρ cs) (emit ρ cs) ≡ some p.0) r p.2) in
      (q.0, p.1, q.1, ap (λ (x : List ℤ). x ++ p.1) (some-injective (encode (single q.0)) p.0 q.2) ∙ p.4, p.3)

  pub call_item : (c : ℕ) → role l ≡ a_call c → (xs : Forest) × (rest : List ℤ) × (values ρ cs ≡ some xs) × (encode (single (interpret c xs)) ++ rest ≡ ws) × (emit ρ ss ≡ some rest)
  call_item c r =
      let p = parted in
      let q = came (values ρ cs) (λ xs. some (encode (single (interpret c xs)))) p.0 (subst (λ (z : Role). emit_at ρ z l (term_count cs) (values ρ cs) (emit ρ cs) ≡ some p.0) r p.2) in
      (q.0, p.1, q.1, ap (λ (x : List ℤ). x ++ p.1) (some-injective (encode (single (interpret c q.0))) p.0 q.2) ∙ p.4, p.3)

  pub plain_item : role l ≡ plain → (rest : List ℤ) × (tag_word l (term_count cs) ∷ datum_word l ∷ rest ≡ ws) × (emit ρ (appended cs ss) ≡ some rest)
  plain_item r =
      let p = parted in
      let q = came (emit ρ cs) (λ us. some (tag_word l (term_count cs) ∷ datum_word l ∷ us)) p.0 (subst (λ (z : Role). emit_at ρ z l (term_count cs) (values ρ cs) (emit ρ cs) ≡ some p.0) r p.2) in
      (q.0 ++ p.1, ap (λ (x : List ℤ). x ++ p.1) (some-injective (tag_word l (term_count cs) ∷ datum_word l ∷ q.0) p.0 q.2) ∙ p.4, emit_appended ρ cs ss q.0 p.1 q.1 p.3)
