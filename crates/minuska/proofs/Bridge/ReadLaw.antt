-- Reading words: words that span k terms are those of k shapely terms; where these are in order they are read as them.
use mathlib.Core.Path.{◌≡◌, refl, sym, ◌∙◌, ap, subst, subst⁻¹}
use mathlib.Core.Option.{Option, some, some-injective, none-ne-some}
use mathlib.Core.List.{List, [], ◌∷◌, ◌++◌}
use Prim.Native.Nat.{ℕ, zero, suc, ◌+◌}
use native.Mathlib.Omega.{arith}
use lib.Dec.{T}
use lib.IntN.{ℤ}
use Rattle.minuska.specs.Basics.{◌>>=◌}
use Rattle.minuska.specs.Term.{Label, Forest, nil, node, Term, single, term_count}
use Rattle.minuska.specs.Word.{tag_word, datum_word, ok_head, encode}
use Rattle.minuska.specs.Computed.Read.{read_node, split_terms, span_terms, read_term}
use Rattle.minuska.specs.Bridge.Shape.{shapely, ordered}
use Rattle.minuska.proofs.Tests.{came}
use Rattle.minuska.proofs.WordLaw.{node_read, appended, appended_split, encode_appended}
use Rattle.minuska.proofs.SpanLaw.{span_parts, read_term_iff}
use Rattle.minuska.proofs.Bridge.ShapeLaw.{shaped_all, shapely_ok}
use Rattle.minuska.proofs.Bridge.AppendedLaw.{shapely_appended}

-- ---- lists of terms, split
split_first : (k m : ℕ) (f : Forest) → term_count f ≡ k + m → (p : Forest × Forest) × (split_terms k f ≡ some p) × (term_count p.1 ≡ m)
split_first zero m f e = ((nil, f), refl, omega arith)
split_first (suc k) m nil e = absurd (let f : ⊥ = omega arith in f)
split_first (suc k) m (node l cs ss) e =
    let i = split_first k m ss (omega arith) in
    ((node l cs i.0.0, i.0.1), ap (λ (o : Option (Forest × Forest)). o >>= λ p. some (node l cs p.0, p.1)) i.1, i.2)

-- ---- words that span terms
pub record Spanned (ws : List ℤ) (k : ℕ) : Type 0 where
  pub terms : Forest
  pub shape : T (shapely terms)
  pub words : encode terms ≡ ws
  pub count : term_count terms ≡ k

nothing : (p : List ℤ × List ℤ) (ws : List ℤ) → some ([], ws) ≡ some p → Spanned p.0 0
nothing p ws e = subst (λ (q : List ℤ × List ℤ). Spanned q.0 0) (some-injective ([], ws) p e) (record { terms = nil; shape = tt; words = refl; count = refl })

pub span_shapes : (ws : List ℤ) (k : ℕ) (p : List ℤ × List ℤ) → span_terms ws k ≡ some p → Spanned p.0 k
span_shapes [] zero p e = nothing p [] e
span_shapes [] (suc k) p e = absurd (none-ne-some p e)
span_shapes (t ∷ []) zero p e = nothing p (t ∷ []) e
span_shapes (t ∷ []) (suc k) p e = absurd (none-ne-some p e)
span_shapes (t ∷ d ∷ ws) zero p e = nothing p (t ∷ d ∷ ws) e
span_shapes (t ∷ d ∷ ws) (suc k) p e =
    let c = came (read_node t d) (λ n. span_terms ws (n.1 + k) >>= λ q. some (t ∷ d ∷ q.0, q.1)) p e in
    let r = came (span_terms ws (c.0.1 + k)) (λ q. some (t ∷ d ∷ q.0, q.1)) p c.2 in
    let i = span_shapes ws (c.0.1 + k) r.0 r.1 in
    let s = split_first c.0.1 k i.terms i.count in
    subst (λ (q : List ℤ × List ℤ). Spanned q.0 (suc k)) (some-injective (t ∷ d ∷ r.0.0, r.0.1) p r.2)
    (build c.0.0 c.0.1 s.0.0 s.0.1 i.terms r.0.0 (node_read t d c.0 c.1) (appended_split c.0.1 i.terms s.0 s.1) s.2 i.shape i.words)
  where
    build : (l : Label) (m : ℕ) (cs ss f : Forest) (us : List ℤ) → T (ok_head l m) × (tag_word l m ≡ t) × (datum_word l ≡ d) → (term_count cs ≡ m) × (appended cs ss ≡ f) → term_count ss ≡ k → T (shapely f) → encode f ≡ us → Spanned (t ∷ d ∷ us) (suc k)
    build l m cs ss f us n a z x w =
        let o = shapely_appended cs ss (subst⁻¹ (λ (y : Forest). T (shapely y)) a.1 x) in
        let g : tag_word l (term_count cs) ≡ t = ap (tag_word l) a.0 ∙ n.1 in
        let h : encode cs ++ encode ss ≡ us = sym (encode_appended cs ss) ∙ (ap encode a.1 ∙ w) in
        let j = n.2 in
        record { terms = node l cs ss; shape = shaped_all l cs ss (subst⁻¹ (λ (y : ℕ). T (ok_head l y)) a.0 n.0) o.0 o.1; words = cc; count = ap suc z }

-- ---- one term
pub record SpannedTerm (ws : List ℤ) : Type 0 where
  pub term : Term
  pub shape : T (shapely (single term))
  pub words : encode (single term) ≡ ws

pub span_term : (ws : List ℤ) (p : List ℤ × List ℤ) → span_terms ws 1 ≡ some p → SpannedTerm p.0
span_term ws p e = let i = span_shapes ws 1 p e in alone i.terms i.count i.shape i.words
  where
    alone : (f : Forest) → term_count f ≡ 1 → T (shapely f) → encode f ≡ p.0 → SpannedTerm p.0
    alone nil h x q = absurd (let f : ⊥ = omega arith in f)
    alone (node l cs nil) h x q = record { term = record { label = l; children = cs }; shape = x; words = q }
    alone (node l cs (node m ds us)) h x q = absurd (let f : ⊥ = omega arith in f)

-- IN ORDER, IT IS READ
pub span_reads : (ws : List ℤ) (p : List ℤ × List ℤ) → span_terms ws 1 ≡ some p → (s : SpannedTerm p.0) → T (ordered (single s.term)) → read_term ws ≡ some (s.term, p.1)
span_reads ws p e s o = (read_term_iff ws s.term p.1).1 (shapely_ok (single s.term) s.shape o, ap (λ (v : List ℤ). v ++ p.1) s.words ∙ span_parts ws 1 p e)
