-- The walk over ground terms: a stretch of words without a dictionary, node by node; and its answer.
use mathlib.Core.Path.{◌≡◌, refl, sym, ◌∙◌, ap, subst}
use mathlib.Core.Bool.{Bool, true, false}
use mathlib.Core.List.{List}
use mathlib.Core.Option.{some}
use Prim.Native.Nat.{ℕ, ◌+◌, ◌-◌, ◌*◌, ◌≤◌, ◌<◌}
use native.Mathlib.Omega.{arith}
use lib.Dec.{ltb}
use lib.IntN.{ℤ, pos}
use lib.ListN.{get_or, length}
use borrow.Author.Tests.{ltb-true, ltb-false}
use Rattle.minuska.specs.Computed.Read.{dictionary_tag, max_children, plain_children}
use Rattle.term.specs.TermEnd.{ground_label, tagged_label, TaggedNode, GroundNode, NoneMet, TaggedTermsAre, GroundTermsAre, children_if, tag_children, ground_terms_end}
use Rattle.std.specs.Prelude.{Some, None}
use Rattle.term.specs.declared.ground.Walked.{Walked}
use Rattle.term.specs.declared.ground.Reached.{Reached}
use Rattle.term.proofs.NodeLaw.{children_node, node_children, weaker, tagged_ground, tagged_few, tagged_other, node_at}
use Rattle.term.proofs.TermEndLaw.{ground_terms_are, place_done, Walking, walking_end, walking_short, walking_bad, walking_next}

-- ---- a node that passes by its tag
pub tagged_here : (t d : ℤ) → TaggedNode t d true → (children_if ground_label t d ≡ some (tag_children t)) × (tag_children t ≤ 7) × (t ≡ pos dictionary_tag → ⊥)
tagged_here t d n =
    let m = children_node tagged_label t d (tag_children t) n.children in
    (node_children ground_label t d (tag_children t) (weaker tagged_label ground_label tagged_ground m), tagged_few t d (tag_children t) m, tagged_other t d (tag_children t) m)

-- ---- no dictionary: in no words, with one node more, in one stretch behind another
module _ (ws : List ℤ) where
  pub none_yet : (at : ℕ) → NoneMet ws at at
  none_yet at = record { nodes = 0; ends = omega arith; none = λ j h e. let f : ⊥ = omega arith in f }

  pub none_joined : (a b c : ℕ) → NoneMet ws a b → NoneMet ws b c → NoneMet ws a c
  none_joined a b c x y =
      let p = x.ends in
      let q = y.ends in
      record { nodes = x.nodes + y.nodes; ends = omega arith; none = λ j h e. pick j (ltb j x.nodes) refl h e }
    where
      behind : (j : ℕ) → j < x.nodes + y.nodes → x.nodes ≤ j → get_or ws (a + 2 * j) (pos 0) ≡ pos dictionary_tag → ⊥
      behind j h l e =
          let p = x.ends in
          let i : b + 2 * (j - x.nodes) ≡ a + 2 * j = omega arith in
          y.none (j - x.nodes) (omega arith) (ap (λ (n : ℕ). get_or ws n (pos 0)) i ∙ e)

      pick : (j : ℕ) (t : Bool) → ltb j x.nodes ≡ t → j < x.nodes + y.nodes → get_or ws (a + 2 * j) (pos 0) ≡ pos dictionary_tag → ⊥
      pick j true q h e = x.none j (ltb-true j x.nodes q) e
      pick j false q h e = behind j h (ltb-false j x.nodes q) e

  pub none_here : (at : ℕ) → (get_or ws at (pos 0) ≡ pos dictionary_tag → ⊥) → NoneMet ws at (at + 2)
  none_here at f =
      record { nodes = 1; ends = omega arith; none = λ j h e. f (ap (λ (n : ℕ). get_or ws n (pos 0)) (let z : at ≡ at + 2 * j = omega arith in z) ∙ e) }

-- ---- how far the walk by tags has come
pub record Tagging (s : List ℤ) (at count i k : ℕ) : Type 0 where
  pub inside : i ≤ length s
  pub few : k ≤ 7 * i + max_children
  pub walk : Walking ground_label s at count i k
  pub none : NoneMet s at i

module _ {s : List ℤ} {at count i k : ℕ} (g : Tagging s at count i k) where
  stops : (0 < k → i + 2 ≤ length s → TaggedNode (get_or s i (pos 0)) (get_or s (i + 1) (pos 0)) false) → TaggedTermsAre s at count (record { at = i; left = k })
  stops f = record { inside = g.inside; few = g.few; rest = ground_terms_are s at count ∙ (g.walk.same ∙ sym (ground_terms_are s i k)); none = g.none; stops = f }

  pub tagging_end : k ≡ 0 → TaggedTermsAre s at count (record { at = i; left = 0 })
  tagging_end z = subst (λ (n : ℕ). TaggedTermsAre s at count (record { at = i; left = n })) z (stops (λ p q. absurd (let f : ⊥ = omega arith in f)))

  pub tagging_short : length s - i < 2 → TaggedTermsAre s at count (record { at = i; left = k })
  tagging_short h = stops (λ p q. absurd (let f : ⊥ = omega arith in f))

  pub tagging_other : TaggedNode (get_or s i (pos 0)) (get_or s (i + 1) (pos 0)) false → TaggedTermsAre s at count (record { at = i; left = k })
  tagging_other n = stops (λ p q. n)

  module _ (h : i + 2 ≤ length s) (j : 0 < k) (n : TaggedNode (get_or s i (pos 0)) (get_or s (i + 1) (pos 0)) true) where
    pub tagging_few : tag_children (get_or s i (pos 0)) ≤ 7
    tagging_few = (tagged_here _ _ n).1

    pub tagging_on : Tagging s at count (i + 2) (k - 1 + tag_children (get_or s i (pos 0)))
    tagging_on =
        let t = tagged_here _ _ n in
        let f = t.1 in
        let l = g.few in
        record { inside = h; few = omega arith; walk = walking_next g.walk h j _ t.0; none = none_joined s at i (i + 2) g.none (none_here s i t.2) }

-- ---- how far the walk has come that knows dictionaries
pub record Grounding (s : List ℤ) (at count i k : ℕ) : Type 0 where
  pub inside : i ≤ length s
  pub few : k ≤ 7 * length s + max_children
  pub walk : Walking ground_label s at count i k

module _ {s : List ℤ} {at count i k : ℕ} (g : Grounding s at count i k) where
  pub grounding_end : k ≡ 0 → Some i ≡ ground_terms_end s at count
  grounding_end z = sym (ground_terms_are s at count ∙ (walking_end g.walk z).is)

  pub grounding_short : length s - i < 2 * k → None ≡ ground_terms_end s at count
  grounding_short h = sym (ground_terms_are s at count ∙ walking_short g.walk h)

  module _ (h : i + 2 ≤ length s) (j : 0 < k) where
    pub grounding_other : GroundNode (get_or s i (pos 0)) (get_or s (i + 1) (pos 0)) false → None ≡ ground_terms_end s at count
    grounding_other n = sym (ground_terms_are s at count ∙ walking_bad g.walk h j n.children)

    module _ (n : GroundNode (get_or s i (pos 0)) (get_or s (i + 1) (pos 0)) true) where
      pub grounding_few : plain_children (get_or s i (pos 0)) (get_or s (i + 1) (pos 0)) ≤ max_children
      grounding_few = (node_at ground_label s i _ n.children).bounded

      pub grounding_on : 2 * k ≤ length s - i → Grounding s at count (i + 2) (k - 1 + plain_children (get_or s i (pos 0)) (get_or s (i + 1) (pos 0)))
      grounding_on l = let f = grounding_few in record { inside = h; few = omega arith; walk = walking_next g.walk h j _ n.children }

-- ---- the answer where no term is left by the walk by tags
module _ (ws : List ℤ) (at k : ℕ) (r : Reached) (t : TaggedTermsAre ws at k r) where
  pub all_tagged : r.left ≡ 0 → GroundTermsAre ws at k (Some (record { end = r.at; met = false }))
  all_tagged z =
      record {
        place = sym (t.rest ∙ (ground_terms_are ws r.at r.left ∙ place_done ground_label ws r.at r.left z));
        none = λ w p q. subst (λ (v : Walked). NoneMet ws at v.end) (let e : record { end = r.at; met = false } ≡ w = cc in e) t.none;
      }
