-- At most one list of terms in range has given words, be its dictionaries in order or not.
use mathlib.Core.Path.{◌≡◌, refl, sym, ◌∙◌, ap, ap₂}
use mathlib.Core.Option.{some-injective}
use mathlib.Core.List.{List, ◌++◌, append_assoc}
use Prim.Native.Nat.{ℕ, ◌+◌}
use native.Mathlib.Omega.{arith}
use lib.Dec.{T}
use lib.IntN.{ℤ}
use lib.ListN.{length, take, drop}
use Rattle.minuska.specs.Term.{Label, Forest, nil, node, term_count}
use Rattle.minuska.specs.Word.{tag_word, datum_word, ok_head, encode}
use Rattle.minuska.specs.Computed.Read.{read_node}
use Rattle.minuska.specs.Bridge.Shape.{shapely}
use Rattle.minuska.specs.Bridge.Place.{Stands}
use Rattle.minuska.proofs.WordLaw.{read_node_lem}
use Rattle.minuska.proofs.Bridge.ShapeLaw.{shaped, shaped_all}
use Rattle.minuska.proofs.Bridge.AppendedLaw.{first_words}
use Rattle.minuska.proofs.Bridge.PlaceLaw.{stands_then}

-- two nodes with the same two words are one, with one child count
same_node_lem : (l m : Label) (j k : ℕ) → T (ok_head l j) → T (ok_head m k) → tag_word l j ≡ tag_word m k → datum_word l ≡ datum_word m → Path (Label × ℕ) (l, j) (m, k)
same_node_lem l m j k x y p q = some-injective (l, j) (m, k) (sym (read_node_lem l j x) ∙ (ap₂ read_node p q ∙ read_node_lem m k y))

-- so many terms at the front of words
pub front_unique : (f g : Forest) → T (shapely f) → T (shapely g) → term_count f ≡ term_count g → (us vs : List ℤ) → encode f ++ us ≡ encode g ++ vs → (f ≡ g) × (us ≡ vs)
front_unique nil nil x y c us vs e = (refl, e)
front_unique nil (node m ds ts) x y c us vs e = absurd (let f : ⊥ = omega arith in f)
front_unique (node l cs ss) nil x y c us vs e = absurd (let f : ⊥ = omega arith in f)
front_unique (node l cs ss) (node m ds ts) x y c us vs e =
    let a = shaped l cs ss x in
    let b = shaped m ds ts y in
    let p : tag_word l (term_count cs) ≡ tag_word m (term_count ds) = cc in
    let q : datum_word l ≡ datum_word m = cc in
    let w : (encode cs ++ encode ss) ++ us ≡ (encode ds ++ encode ts) ++ vs = cc in
    let r = same_node_lem l m (term_count cs) (term_count ds) a.head b.head p q in
    let i = front_unique cs ds a.children b.children (ap (λ (z : Label × ℕ). z.1) r) (encode ss ++ us) (encode ts ++ vs) (sym (append_assoc (encode cs) (encode ss) us) ∙ (w ∙ append_assoc (encode ds) (encode ts) vs)) in
    let j = front_unique ss ts a.rest b.rest (omega arith) us vs i.1 in
    (together l m cs ds ss ts (ap (λ (z : Label × ℕ). z.0) r) i.0 j.0, j.1)
  where
    together : (l m : Label) (cs ds ss ts : Forest) → l ≡ m → cs ≡ ds → ss ≡ ts → node l cs ss ≡ node m ds ts
    together l m cs ds ss ts p q r = cc

-- all the words
pub words_unique : (f g : Forest) → T (shapely f) → T (shapely g) → encode f ≡ encode g → f ≡ g
words_unique nil nil x y e = refl
words_unique nil (node m ds ts) x y e = absurd (let z = ap length e in let f : ⊥ = omega arith in f)
words_unique (node l cs ss) nil x y e = absurd (let z = ap length e in let f : ⊥ = omega arith in f)
words_unique (node l cs ss) (node m ds ts) x y e =
    let a = shaped l cs ss x in
    let b = shaped m ds ts y in
    let h = front_unique (node l cs nil) (node m ds nil) (shaped_all l cs nil a.head a.children tt) (shaped_all m ds nil b.head b.children tt) refl (encode ss) (encode ts) (sym (first_words l cs ss) ∙ (e ∙ first_words m ds ts)) in
    let r = words_unique ss ts a.rest b.rest h.1 in
    let p = h.0 in
    cc

-- at most one list of so many terms stands at a place, and at most one that ends at a place
module _ {ws : List ℤ} {at : ℕ} (f g : Forest) (x : T (shapely f)) (y : T (shapely g)) (s : Stands ws at (encode f)) (t : Stands ws at (encode g)) where
  pub count_unique : term_count f ≡ term_count g → f ≡ g
  count_unique c = (front_unique f g x y c (drop (at + length (encode f)) ws) (drop (at + length (encode g)) ws) (sym (stands_then s) ∙ stands_then t)).0

  pub end_unique : length (encode f) ≡ length (encode g) → f ≡ g
  end_unique e = words_unique f g x y (sym s.words ∙ (ap (λ (n : ℕ). take n (drop at ws)) e ∙ t.words))
