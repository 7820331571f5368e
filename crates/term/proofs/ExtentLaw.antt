-- Terms whose labels pass a test: a term ends at a place exactly if its words stand up to there.
use mathlib.Core.Path.{◌≡◌, refl, sym, ◌∙◌, ap, subst, subst⁻¹}
use mathlib.Core.Bool.{Bool}
use mathlib.Core.Option.{Option, none, some}
use mathlib.Core.List.{List, [], ◌∷◌, ◌++◌, append_assoc}
use Prim.Native.Nat.{ℕ, zero, suc, ◌+◌}
use native.Mathlib.Nat.{add-zero, suc-add, zero-add}
use native.Mathlib.Omega.{arith}
use lib.Dec.{T}
use lib.IntN.{ℤ}
use lib.ListN.{length, take, drop, length-append, length-drop, take-append-drop}
use lib.Seq.{length-take-le}
use Rattle.minuska.proofs.Bridge.AppendedLaw.{labels, labels_all, shapely_appended}
use Rattle.minuska.proofs.Bridge.ShapeLaw.{shaped, shaped_all}
use Rattle.minuska.proofs.Tests.{came}
use Rattle.minuska.proofs.WordLaw.{appended, encode_appended}
use Rattle.minuska.specs.Basics.{◌>>=◌}
use Rattle.minuska.specs.Bridge.Place.{Stands}
use Rattle.minuska.specs.Bridge.Shape.{shapely}
use Rattle.minuska.specs.Term.{Forest, nil, node, Label, Term, single, term_count, every_label}
use Rattle.minuska.specs.Word.{datum_word, encode, ok_head, tag_word}
use Rattle.term.specs.TermEnd.{children_if, extent, place_of}
use Rattle.std.specs.Prelude.{Some}
use Rattle.term.proofs.NodeLaw.{Node, node_children, children_node}
use Rattle.term.proofs.TermEndLaw.{extent_zero, extent_long, place_some}

module _ (p : Label → Bool) where
  -- the words of a list of terms in front of others
  extent_encode : (f : Forest) → T (shapely f) → T (every_label p f) → (ws : List ℤ) (k : ℕ) → extent p (encode f ++ ws) (term_count f + k) ≡ (extent p ws k >>= λ m. some (length (encode f) + m))
  extent_encode nil x y ws k = ap (extent p ws) (zero-add k) ∙ whole_bind (extent p ws k)
    where
      whole_bind : (o : Option ℕ) → o ≡ (o >>= λ m. some (0 + m))
      whole_bind none = refl
      whole_bind (some m) = ap {B = Option ℕ} some (sym (zero-add m))
  extent_encode (node l cs ss) x y ws k =
      let o = shaped l cs ss x in
      let a = labels p l cs ss y in
      let t = tag_word l (term_count cs) in
      let d = datum_word l in
      let j = term_count ss + k in
      let n = node_children p t d (term_count cs) (record { label = l; okay = o.head; passes = a.here; tag = refl; datum = refl }) in
      let q = extent_encode cs o.children a.children (encode ss ++ ws) j in
      let r = extent_encode ss o.rest a.rest ws k in
      ap (extent p (encode (node l cs ss) ++ ws)) (suc-add (term_count ss) k) ∙
      (ap (λ (z : Option ℕ). z >>= λ m. extent p ((encode cs ++ encode ss) ++ ws) (m + (term_count ss + k)) >>= λ e. some (2 + e)) n ∙
      (ap (λ (v : List ℤ). extent p v (term_count cs + (term_count ss + k)) >>= λ e. some (2 + e)) (append_assoc (encode cs) (encode ss) ws) ∙
      (ap (λ (z : Option ℕ). z >>= λ e. some (2 + e)) (q ∙ ap (λ (z : Option ℕ). z >>= λ m. some (length (encode cs) + m)) r) ∙ after (extent p ws k))))
    where
      after : (o : Option ℕ) → (((o >>= λ m. some (length (encode ss) + m)) >>= λ m. some (length (encode cs) + m)) >>= λ e. some (2 + e)) ≡ (o >>= λ m. some (length (encode (node l cs ss)) + m))
      after none = refl
      after (some m) =
          let a = length-append (encode cs) (encode ss) in
          let e : 2 + (length (encode cs) + (length (encode ss) + m)) ≡ length (encode (node l cs ss)) + m = omega arith in
          ap {B = Option ℕ} some e

  -- A TERM THAT STANDS AT A PLACE ends behind its words
  pub stands_ends : (ws : List ℤ) (at : ℕ) (t : Term) → T (shapely (single t)) → T (every_label p (single t)) → Stands ws at (encode (single t)) → place_of at (extent p (drop at ws) 1) ≡ Some (at + length (encode (single t)))
  stands_ends ws at t x y s =
      let xs = encode (single t) in
      let rest = drop (length (encode (single t))) (drop at ws) in
      let split : drop at ws ≡ xs ++ rest = sym (ap (λ (v : List ℤ). v ++ drop (length (encode (single t))) (drop at ws)) (sym s.words) ∙ take-append-drop (length (encode (single t))) (drop at ws)) in
      ap (λ (v : List ℤ). place_of at (extent p v 1)) split ∙
      (ap (place_of at) (extent_encode (single t) x y rest 0 ∙ ap (λ (o : Option ℕ). o >>= λ m. some (length (encode (single t)) + m)) (extent_zero p rest)) ∙
      ap (λ (n : ℕ). Some (at + n)) (add-zero (length xs)))

  -- ---- the words of terms are those of terms in range
  record Split (f : Forest) (n k : ℕ) : Type 0 where
    first : Forest
    others : Forest
    whole : appended first others ≡ f
    count : term_count first ≡ n
    left : term_count others ≡ k
    passes : T (every_label p first)
    others_pass : T (every_label p others)

  split : (n : ℕ) (f : Forest) (k : ℕ) → term_count f ≡ n + k → T (every_label p f) → Split f n k
  split zero f k e x = record { first = nil; others = f; whole = refl; count = refl; left = e ∙ zero-add k; passes = tt; others_pass = x }
  split (suc n) nil k e x = absurd (let f : ⊥ = omega arith in f)
  split (suc n) (node l cs ss) k e x =
      let o = labels p l cs ss x in
      let s = split n ss k (omega arith) o.rest in
      record {
        first = node l cs s.first;
        others = s.others;
        whole = ap (node l cs) s.whole;
        count = ap suc s.count;
        left = s.left;
        passes = labels_all p l cs s.first o.here o.children s.passes;
        others_pass = s.others_pass;
      }

  record Read (ws : List ℤ) (k : ℕ) : Type 0 where
    forest : Forest
    shape : T (shapely forest)
    words : encode forest ≡ ws
    count : term_count forest ≡ k
    passes : T (every_label p forest)

  read_none : (ws : List ℤ) (m : ℕ) → some 0 ≡ some m → Read (take m ws) 0
  read_none ws m e = let q : 0 ≡ m = cc in subst (λ (n : ℕ). Read (take n ws) 0) q (record { forest = nil; shape = tt; words = refl; count = refl; passes = tt })

  extent_read : (ws : List ℤ) (k m : ℕ) → extent p ws k ≡ some m → Read (take m ws) k
  extent_read [] zero m e = read_none [] m e
  extent_read [] (suc k) m e = absurd (let z : ◌≡◌ {A = ℕ} 0 1 = cc in let f : ⊥ = omega arith in f)
  extent_read (t ∷ []) zero m e = read_none (t ∷ []) m e
  extent_read (t ∷ []) (suc k) m e = absurd (let z : ◌≡◌ {A = ℕ} 0 1 = cc in let f : ⊥ = omega arith in f)
  extent_read (t ∷ d ∷ ws) zero m e = read_none (t ∷ d ∷ ws) m e
  extent_read (t ∷ d ∷ ws) (suc k) m e =
      let a = came (children_if p t d) (λ n. extent p ws (n + k) >>= λ x. some (2 + x)) m e in
      let b = came (extent p ws (a.0 + k)) (λ x. some (2 + x)) m a.2 in
      let r = extent_read ws (a.0 + k) b.0 b.1 in
      let q : suc (suc b.0) ≡ m = let s : 2 + b.0 ≡ m = let s = b.2 in cc in omega arith in
      subst (λ (n : ℕ). Read (take n (t ∷ d ∷ ws)) (suc k)) q
      (adopted (take b.0 ws) a.0 (children_node p t d a.0 a.1) r (split a.0 r.forest k r.count r.passes))
    where
      adopted : (us : List ℤ) (m : ℕ) → Node p t d m → {j : ℕ} (r : Read us j) → Split r.forest m k → Read (t ∷ d ∷ us) (suc k)
      adopted us m n r s =
          let o = shapely_appended s.first s.others (subst⁻¹ (λ (f : Forest). T (shapely f)) s.whole r.shape) in
          let g : tag_word n.label (term_count s.first) ≡ t = ap (tag_word n.label) s.count ∙ n.tag in
          let h : encode s.first ++ encode s.others ≡ us = sym (encode_appended s.first s.others) ∙ (ap encode s.whole ∙ r.words) in
          let j = n.datum in
          record {
            forest = node n.label s.first s.others;
            shape = shaped_all n.label s.first s.others (subst⁻¹ (λ (j : ℕ). T (ok_head n.label j)) s.count n.okay) o.0 o.1;
            words = cc;
            count = ap suc s.left;
            passes = labels_all p n.label s.first s.others n.passes s.passes s.others_pass;
          }

  -- WHERE A TERM ENDS, a term stands
  pub record TermTo (ws : List ℤ) (at e : ℕ) : Type 0 where
    pub term : Term
    pub shape : T (shapely (single term))
    pub passes : T (every_label p (single term))
    pub stands : Stands ws at (encode (single term))
    pub ends : e ≡ at + length (encode (single term))

  one_term : (f : Forest) → term_count f ≡ 1 → (t : Term) × (f ≡ single t)
  one_term nil e = absurd (let f : ⊥ = omega arith in f)
  one_term (node l cs nil) e = (record { label = l; children = cs }, refl)
  one_term (node l cs (node m ds us)) e = absurd (let f : ⊥ = omega arith in f)

  pub ends_stands : (ws : List ℤ) (at e : ℕ) → place_of at (extent p (drop at ws) 1) ≡ Some e → TermTo ws at e
  ends_stands ws at e h =
      let a = place_some at e (extent p (drop at ws) 1) h in
      let l = extent_long p (drop at ws) 1 a.0 a.1 in
      let r = extent_read (drop at ws) 1 a.0 a.1 in
      let o = one_term r.forest r.count in
      let xs = encode (single o.0) in
      let w : xs ≡ take a.0 (drop at ws) = ap encode (sym o.1) ∙ r.words in
      let n : length xs ≡ a.0 = ap length w ∙ length-take-le a.0 (drop at ws) l.1 in
      let m = length-drop at ws in
      record {
        term = o.0;
        shape = subst (λ (f : Forest). T (shapely f)) o.1 r.shape;
        passes = subst (λ (f : Forest). T (every_label p f)) o.1 r.passes;
        stands = record { words = ap (λ (i : ℕ). take i (drop at ws)) n ∙ sym w; within = omega arith };
        ends = sym a.2 ∙ ap (λ (i : ℕ). at + i) (sym n);
      }
