-- A left and a configuration that do not meet at their roots disagree there.
use mathlib.Core.Path.{◌≡◌, refl, sym, ◌∙◌, ap, ap₂}
use mathlib.Core.Bool.{Bool, true, false, cond}
use mathlib.Core.Logic.{inl, inr}
use mathlib.Core.Option.{none}
use Prim.Native.Nat.{suc}
use Rattle.minuska.specs.Term.{Label, Term, single, term_count, nodes, Role, a_variable, a_call, plain, role}
use Rattle.minuska.specs.Word.{tag_word, datum_word}
use Rattle.minuska.specs.Computed.Match.{unbound, try_match}
use Rattle.minuska.specs.Computed.Compare.{Comparison, agreed, apart, later, after, compare_at, compare, comparison, bound_by}
use Rattle.minuska.specs.Bridge.Place.{RootMeets}
use Rattle.minuska.proofs.CompareLaw.{same_node, same_node_lem, compare_match}
use Rattle.minuska.proofs.NodeLaw.{variable_label}

-- WHERE THE ROOTS DO NOT MEET, THE FIRST NODE DISAGREES,
pub root_apart : (l g : Term) → (RootMeets l g → ⊥) → comparison l g ≡ apart 0
root_apart l g f = ap (λ (c : Comparison). after (suc (nodes l.children)) c (λ σ. agreed σ)) (pick (role l.label) refl)
  where
    test : (b : Bool) → same_node l.label (term_count l.children) g.label (term_count g.children) ≡ b → cond b (later 1 (compare l.children g.children unbound)) (apart 0) ≡ apart 0
    test true t = let (p, c) = same_node_lem l.label g.label (term_count l.children) (term_count g.children) t in absurd (f (inr (ap₂ tag_word p c, ap datum_word p)))
    test false t = refl

    pick : (r : Role) → role l.label ≡ r → compare_at r l.label (term_count l.children) g unbound (λ σ. compare l.children g.children σ) ≡ apart 0
    pick (a_variable v) q = absurd (f (inl (ap (λ (k : Label). tag_word k (term_count l.children)) (variable_label l.label v q))))
    pick (a_call c) q = refl
    pick plain q = test (same_node l.label (term_count l.children) g.label (term_count g.children)) refl

-- and the left does not match
pub root_misses : (l g : Term) → (RootMeets l g → ⊥) → try_match (single l) (single g) unbound ≡ none
root_misses l g f = sym (compare_match (single l) (single g) unbound) ∙ ap bound_by (root_apart l g f)
