-- A dictionary's entries, from its root.
use mathlib.Core.Path.{◌≡◌, refl, ◌∙◌, ap, ap₂, subst}
use mathlib.Core.Bool.{Bool}
use mathlib.Core.Option.{Option, none, some, some-injective, none-ne-some}
use mathlib.Core.List.{List, [], ◌∷◌, ◌++◌, append-nil}
use Prim.Native.Nat.{ℕ, ◌*◌, ◌≤◌}
use native.Mathlib.Omega.{arith}
use lib.Dec.{T, eqb→eq}
use lib.IntN.{ℤ, pos}
use lib.ListN.{length}
use Rattle.minuska.specs.Basics.{◌>>=◌}
use Rattle.minuska.specs.Term.{Label, error, truth, whole, variable, call, symbol, dictionary, Forest, nil, node, Term, single, term_count, ground_at, role, is_ground, as_whole}
use Rattle.minuska.specs.Dictionary.{Entries, rising, entry_terms, entries, all_rise}
use Rattle.minuska.specs.Word.{tag_word, datum_word, ok_head, ok_below, ok, encode}
use Rattle.minuska.specs.Function.{as_dictionary_at, as_dictionary}
use Rattle.minuska.specs.Computed.Read.{dictionary_tag}
use Rattle.minuska.proofs.Tests.{came, and_right}
use Rattle.minuska.proofs.NodeLaw.{DictionaryNode, dictionary_tag_lem}
use Rattle.minuska.proofs.LabelLaw.{whole_label}
use Rattle.minuska.proofs.WordLaw.{Okay, okay, head_okay, below_okay, childless}
use Rattle.minuska.proofs.DictionaryLaw.{terms_count}
use Rattle.minuska.proofs.Bridge.AppendedLaw.{labels}

-- ---- terms in range that are entries are those entries' terms
pub terms_of : (f : Forest) (es : Entries) → T (ok f) → entries f ≡ some es → f ≡ entry_terms es
terms_of nil es x e = ap entry_terms (some-injective [] es e)
terms_of (node l ls nil) es x e = absurd (none-ne-some es e)
terms_of (node l ls (node m ms ss)) es x e =
    let t : Term = record { label = m; children = ms } in
    let c = came (as_whole l) (λ k. entries ss >>= λ es. some (record { key = k; value = t } ∷ es)) es e in
    let d = came (entries ss) (λ es. some (record { key = c.0; value = t } ∷ es)) es c.2 in
    let o = okay l ls (node m ms ss) x in
    let q : l ≡ whole c.0 = whole_label l c.0 c.1 in
    let n : ls ≡ nil = childless ls (eqb→eq (term_count ls) 0 (subst (λ (y : Label). T (ok_head y (term_count ls))) q (head_okay l ls o.allowed))) in
    let i : ss ≡ entry_terms d.0 = terms_of ss d.0 (okay m ms ss o.rest).rest d.1 in
    ap (λ (y : Label). node y ls (node m ms ss)) q ∙
    (ap (λ (g : Forest). node (whole c.0) g (node m ms ss)) n ∙
    (ap (λ (g : Forest). node (whole c.0) nil (node m ms g)) i ∙ ap entry_terms (some-injective (record { key = c.0; value = t } ∷ d.0) es d.2)))

pub risen : (o : Option Entries) → T (all_rise o) → (es : Entries) × (o ≡ some es) × T (rising es)
risen none x = absurd x
risen (some es) x = (es, refl, x)

-- ---- what stands at the place: no dictionary, or one
pub no_dictionary : (l : Label) (cs : Forest) → (tag_word l (term_count cs) ≡ pos dictionary_tag → ⊥) → as_dictionary_at l cs ≡ none
no_dictionary error cs f = refl
no_dictionary (truth b) cs f = refl
no_dictionary (whole z) cs f = refl
no_dictionary (variable v) cs f = refl
no_dictionary (call c) cs f = refl
no_dictionary (symbol s) cs f = refl
no_dictionary (dictionary n) cs f = absurd (f refl)

abbrev ground_label : Label → Bool
ground_label l = ground_at (role l)

-- a dictionary with so many entries
pub record DictionaryOf (n : ℕ) (t : Term) : Type 0 where
  pub items : Entries
  pub is : as_dictionary t ≡ some items
  pub rise : T (rising items)
  pub good : T (ok (entry_terms items))
  pub grounded : T (is_ground (entry_terms items))
  pub count : length items ≡ n
  pub few : n ≤ 64
  pub words : encode (single t) ≡ pos 5 ∷ pos n ∷ encode (entry_terms items)

module _ (t : Term) (good : T (ok (single t))) (grounded : T (is_ground (single t))) (e : tag_word t.label (term_count t.children) ≡ pos dictionary_tag) where
  abbrev l : Label
  l = t.label

  abbrev cs : Forest
  cs = t.children

  parts : Okay l cs nil
  parts = okay l cs nil good

  the_node : (n : ℕ) × DictionaryNode n l (term_count cs)
  the_node = dictionary_tag_lem l (term_count cs) (head_okay l cs parts.allowed) e

  items_here : (es : Entries) × (entries cs ≡ some es) × T (rising es)
  items_here = risen (entries cs) (and_right (is_ground cs) (all_rise (entries cs)) (subst (λ (y : Label). T (ok_below y cs)) the_node.1.label (below_okay l cs parts.allowed)))

  terms_here : cs ≡ entry_terms items_here.0
  terms_here = terms_of cs items_here.0 parts.children items_here.1

  counted : length items_here.0 ≡ the_node.0
  counted = let a : term_count cs ≡ 2 * length items_here.0 = ap term_count terms_here ∙ terms_count items_here.0 in let b = the_node.1.two in omega arith

  datum_is : datum_word l ≡ pos the_node.0
  datum_is = ap datum_word the_node.1.label

  -- so many as its root's datum says
  pub dictionary_of : (n : ℕ) × (datum_word t.label ≡ pos n) × DictionaryOf n t
  dictionary_of = (
    the_node.0,
    datum_is,
    record {
      items = items_here.0;
      is = ap (λ (y : Label). as_dictionary_at y cs) the_node.1.label ∙ items_here.1;
      rise = items_here.2;
      good = subst (λ (f : Forest). T (ok f)) terms_here parts.children;
      grounded = subst (λ (f : Forest). T (is_ground f)) terms_here (labels ground_label l cs nil grounded).children;
      count = counted;
      few = the_node.1.few;
      words = ap₂ (λ (x y : ℤ). x ∷ y ∷ (encode cs ++ [])) e datum_is ∙ ap (λ (ws : List ℤ). pos 5 ∷ pos the_node.0 ∷ ws) (append-nil (encode cs) ∙ ap encode terms_here);
    },
  )
