-- The range of a datum by tag: two words are a ground term's node, no dictionary, exactly if the datum is in the tag's range. And a dictionary's.
use mathlib.Core.Path.{◌≡◌, refl, sym, ◌∙◌, ap, subst, subst⁻¹}
use mathlib.Core.Bool.{Bool, true, false, cond}
use mathlib.Core.Logic.{◌⊎◌, inl, inr, ⊎_elim}
use mathlib.Core.Option.{Option, some, none-ne-some}
use Prim.Native.Nat.{ℕ, zero, suc, ◌+◌, ◌*◌, ◌≤◌, ◌<◌, ◌^◌}
use native.Mathlib.Omega.{arith}
use lib.Dec.{T, lit<, eqb, leb, ltb, eqb_refl, ltb→lt, lt→ltb, leb→le, le→leb}
use lib.IntN.{ℤ, pos}
use lib.ListN.{get_or, get_or-replicate}
use Rattle.std.proofs.Common.{of_z}
use mir.Syntax.{w64}
use mir.Val.{SFits}
use Rattle.std.proofs.lemmas.Int.{to_z-of_z, to_z_pos}
use Rattle.minuska.proofs.Tests.{and_both, and_left, and_right}
use Rattle.minuska.specs.Computed.Read.{dictionary_tag, plain_children}
use Rattle.minuska.specs.Dictionary.{max_entries}
use Rattle.minuska.specs.Term.{Label, call, dictionary, error, symbol, truth, variable, whole}
use Rattle.minuska.specs.Word.{symbols, datum_word, ok_head, tag_word}
use Rattle.term.specs.declared.ground.TheConstants.{NODES}
use Rattle.term.specs.TermEnd.{ground_label, tagged_label, TaggedNode, GroundNode, tag_children}
use Rattle.term.proofs.NodeLaw.{Node, node_children, children_node, no_node, tagged_count, tagged_other, plain_by_tag, ground_count, weaker, tagged_ground, node_words, dictionary_words}

-- a tag's bound
abbrev bound : ℕ → ℕ
bound tag = get_or NODES.bound tag 0

-- a symbol's
eight : (k : ℕ) → 8 + k ≡ suc (suc (suc (suc (suc (suc (suc (suc k)))))))
eight k = omega arith

symbol_bound : (k : ℕ) → k < 8 → bound (suc (suc (suc (suc (suc (suc (suc (suc k)))))))) ≡ symbols
symbol_bound k h = get_or-replicate 8 k symbols 0 h

-- the child count is the one that the tag says by itself
pub children_entry : (tag : ℕ) → tag < 16 → get_or NODES.children tag 0 ≡ tag_children (pos tag)
unfolding tag_children
children_entry zero h = refl
children_entry (suc zero) h = refl
children_entry (suc (suc zero)) h = refl
children_entry (suc (suc (suc zero))) h = refl
children_entry (suc (suc (suc (suc zero)))) h = refl
children_entry (suc (suc (suc (suc (suc zero))))) h = refl
children_entry (suc (suc (suc (suc (suc (suc zero)))))) h = refl
children_entry (suc (suc (suc (suc (suc (suc (suc zero))))))) h = refl
children_entry (suc (suc (suc (suc (suc (suc (suc (suc zero)))))))) h = refl
children_entry (suc (suc (suc (suc (suc (suc (suc (suc (suc zero))))))))) h = refl
children_entry (suc (suc (suc (suc (suc (suc (suc (suc (suc (suc zero)))))))))) h = refl
children_entry (suc (suc (suc (suc (suc (suc (suc (suc (suc (suc (suc zero))))))))))) h = refl
children_entry (suc (suc (suc (suc (suc (suc (suc (suc (suc (suc (suc (suc zero)))))))))))) h = refl
children_entry (suc (suc (suc (suc (suc (suc (suc (suc (suc (suc (suc (suc (suc zero))))))))))))) h = refl
children_entry (suc (suc (suc (suc (suc (suc (suc (suc (suc (suc (suc (suc (suc (suc zero)))))))))))))) h = refl
children_entry (suc (suc (suc (suc (suc (suc (suc (suc (suc (suc (suc (suc (suc (suc (suc zero))))))))))))))) h = refl
children_entry (suc (suc (suc (suc (suc (suc (suc (suc (suc (suc (suc (suc (suc (suc (suc (suc k)))))))))))))))) h = absurd (let f : ⊥ = omega arith in f)

-- ---- a node's datum is below its tag's bound, or the tag is a whole's
label_below : (l : Label) (k : ℕ) → T (ok_head l k) → T (tagged_label l) → (tag : ℕ) × (tag_word l k ≡ pos tag) × ((of_z w64 (datum_word l) < bound tag) ⊎ (tag ≡ 2))
label_below error k x g = (0, refl, inl (lit< tt))
label_below (truth true) k x g = (1, refl, inl (lit< tt))
label_below (truth false) k x g = (1, refl, inl (lit< tt))
label_below (whole z) k x g = (2, refl, inr refl)
label_below (variable v) k x g = absurd g
label_below (call c) k x g = absurd g
label_below (dictionary n) k x g = absurd g
label_below (symbol s) k x g =
    let h = ltb→lt s symbols (and_left (ltb s symbols) (leb k 7) x) in
    let i = leb→le k 7 (and_right (ltb s symbols) (leb k 7) x) in
    (suc (suc (suc (suc (suc (suc (suc (suc k))))))), ap pos (eight k), inl (subst⁻¹ (λ (b : ℕ). s < b) (symbol_bound k (omega arith)) h))

-- two words that are no ground term's node
no_tagged : (t d : ℤ) → ((m : ℕ) → Node tagged_label t d m → ⊥) → TaggedNode t d false
no_tagged t d f = record { children = no_node tagged_label t d f }

-- ---- a datum below its tag's bound is a node's
number : (d : ℤ) → SFits w64 d → (n : ℕ) → of_z w64 d < n → n < 2 ^ 63 → pos (of_z w64 d) ≡ d
number d f n h b = sym (to_z_pos w64 (of_z w64 d) (omega arith)) ∙ to_z-of_z w64 d f

bit : (n : ℕ) → n ≤ 1 → (b : Bool) × (cond b 1 0 ≡ n)
bit zero h = (false, refl)
bit (suc zero) h = (true, refl)
bit (suc (suc n)) h = absurd (let f : ⊥ = omega arith in f)

node_good : (l : Label) (k : ℕ) (t d : ℤ) → T (ok_head l k) → T (tagged_label l) → tag_word l k ≡ t → datum_word l ≡ d → TaggedNode t d true
node_good l k t d x g p q =
    let n : Node tagged_label t d k = record { label = l; okay = x; passes = g; tag = p; datum = q } in
    record { children = node_children tagged_label t d k n ∙ ap {B = Option ℕ} some (tagged_count t d k n) }

a_number : (d : ℤ) → TaggedNode (pos 2) d true
a_number d = node_good (whole d) 0 (pos 2) d tt tt refl refl

in_range : (tag : ℕ) (d : ℤ) → SFits w64 d → tag < 16 → of_z w64 d < bound tag → TaggedNode (pos tag) d true
in_range zero d f i r =
    let e : 0 ≡ of_z w64 d = omega arith in
    node_good error 0 (pos 0) d tt tt refl (ap pos e ∙ number d f 1 r (lit< tt))
in_range (suc zero) d f i r = let b = bit (of_z w64 d) (omega arith) in node_good (truth b.0) 0 (pos 1) d tt tt refl (ap pos b.1 ∙ number d f 2 r (lit< tt))
in_range (suc (suc zero)) d f i r = a_number d
in_range (suc (suc (suc zero))) d f i r = absurd (let e : ⊥ = omega arith in e)
in_range (suc (suc (suc (suc zero)))) d f i r = absurd (let e : ⊥ = omega arith in e)
in_range (suc (suc (suc (suc (suc zero))))) d f i r = absurd (let e : ⊥ = omega arith in e)
in_range (suc (suc (suc (suc (suc (suc zero)))))) d f i r = absurd (let e : ⊥ = omega arith in e)
in_range (suc (suc (suc (suc (suc (suc (suc zero))))))) d f i r = absurd (let e : ⊥ = omega arith in e)
in_range (suc (suc (suc (suc (suc (suc (suc (suc k)))))))) d f i r =
    let h = subst (λ (b : ℕ). of_z w64 d < b) (symbol_bound k (omega arith)) r in
    let a : k ≤ 7 = omega arith in
    node_good (symbol (of_z w64 d)) k (pos (suc (suc (suc (suc (suc (suc (suc (suc k))))))))) d (and_both (ltb (of_z w64 d) symbols) (leb k 7) (lt→ltb (of_z w64 d) symbols h) (le→leb k 7 a)) tt (ap pos (eight k)) (number d f symbols h (lit< tt))

-- THE TEST BY THE TAG: two words are a ground term's node, no dictionary, exactly if the datum is below the tag's bound, or the tag is a whole's. Both are read as numbers without a sign.
module _ (t d : ℤ) (tag datum : ℕ) (g : SFits w64 t) (f : SFits w64 d) (p : tag ≡ of_z w64 t) (q : datum ≡ of_z w64 d) (i : tag < 16) where
  tag_is : t ≡ pos tag
  tag_is = sym (ap pos p ∙ number t g 16 (omega arith) (lit< tt))

  pub tag_count : get_or NODES.children tag 0 ≡ tag_children t
  tag_count = children_entry tag i ∙ ap tag_children (sym tag_is)

  pub below : datum < get_or NODES.bound tag 0 → TaggedNode t d true
  below h = subst⁻¹ (λ (x : ℤ). TaggedNode x d true) tag_is (in_range tag d f i (omega arith))

  pub above : get_or NODES.bound tag 0 ≤ datum → (t ≡ pos 2 → ⊥) → TaggedNode t d false
  above k w = no_tagged t d (λ m n.
      let h = label_below n.label m n.okay n.passes in
      let a : h.0 ≡ tag = let x = h.1 in let y = n.tag in let z = tag_is in cc in
      ⊎_elim
      (λ b. let x = subst (λ (x : ℕ). of_z w64 d < bound x) a (subst (λ (x : ℤ). of_z w64 x < bound h.0) n.datum b) in let f : ⊥ = omega arith in f)
      (λ b. w (tag_is ∙ ap pos (sym a ∙ b)))
      h.2)

pub of_whole : (t d : ℤ) → t ≡ pos 2 → TaggedNode t d true
of_whole t d p = subst⁻¹ (λ (x : ℤ). TaggedNode x d true) p (a_number d)

-- ---- a node of a ground term: one of those, or a dictionary
pub tagged_passes : (t d : ℤ) → TaggedNode t d true → GroundNode t d true
tagged_passes t d n =
    let m = weaker tagged_label ground_label tagged_ground (children_node tagged_label t d (tag_children t) n.children) in
    record { children = node_children ground_label t d (tag_children t) m ∙ ap {B = Option ℕ} some (ground_count t d (tag_children t) m) }

pub dictionary_passes : (t d : ℤ) (n : ℕ) → t ≡ pos dictionary_tag → d ≡ pos n → n ≤ max_entries → GroundNode t d true
dictionary_passes t d n e f h =
    let m : Node ground_label t d (2 * n) = record { label = dictionary n; okay = and_both (leb n max_entries) (eqb (2 * n) (2 * n)) (le→leb n max_entries h) (eqb_refl (2 * n)); passes = tt; tag = sym e; datum = sym f } in
    record { children = node_children ground_label t d (2 * n) m ∙ ap {B = Option ℕ} some (ground_count t d (2 * n) m) }

apart : (l : Label) → T (ground_label l) → T (tagged_label l) ⊎ ((n : ℕ) × (l ≡ dictionary n))
apart error x = inl tt
apart (truth b) x = inl tt
apart (whole z) x = inl tt
apart (variable v) x = absurd x
apart (call c) x = absurd x
apart (symbol s) x = inl tt
apart (dictionary n) x = inr (n, refl)

neither_passes : (t d : ℤ) → TaggedNode t d false → ((n : ℕ) → t ≡ pos dictionary_tag → d ≡ pos n → n ≤ max_entries → ⊥) → GroundNode t d false
neither_passes t d g f = record { children = no_node ground_label t d (λ m n. ⊎_elim (tagged m n) (other m n) (apart n.label n.passes)) }
  where
    tagged : (m : ℕ) (n : Node ground_label t d m) → T (tagged_label n.label) → ⊥
    tagged m n x =
        none-ne-some m
        (sym g.children ∙ node_children tagged_label t d m (record { label = n.label; okay = n.okay; passes = x; tag = n.tag; datum = n.datum }))

    other : (m : ℕ) (n : Node ground_label t d m) → (k : ℕ) × (n.label ≡ dictionary k) → ⊥
    other m n h =
        let e : t ≡ pos dictionary_tag = sym n.tag ∙ ap (λ (l : Label). tag_word l m) h.1 in
        let w = dictionary_words t d (node_words ground_label t d m (node_children ground_label t d m n)) e in
        f w.0 e w.1 w.2

pub tagged_plain : (t d : ℤ) → TaggedNode t d true → tag_children t ≡ plain_children t d
tagged_plain t d n = plain_by_tag t d (tagged_other t d (tag_children t) (children_node tagged_label t d (tag_children t) n.children))

pub other_fails : (t d : ℤ) → (t ≡ pos dictionary_tag → ⊥) → TaggedNode t d false → GroundNode t d false
other_fails t d f n = neither_passes t d n (λ m e p q. f e)
