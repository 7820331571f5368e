-- A node's child count: a call's by its function, any other's by its tag. And where a term ends that stands at a place.
use mathlib.Core.Path.{◌≡◌, sym, ◌∙◌, ap, subst}
use Prim.Native.Nat.{ℕ}
use native.Mathlib.Omega.{arith}
use lib.Dec.{T}
use lib.IntN.{ℤ, pos, nat_abs}
use Rattle.minuska.proofs.Bridge.AppendedLaw.{labels_all}
use Rattle.minuska.proofs.NodeLaw.{NodeIs, CallNode}
use Rattle.minuska.specs.Computed.Read.{plain_children, variable_tag, call_tag}
use Rattle.minuska.specs.Term.{Role, a_variable, a_call, plain, role, Forest, nil, node, every_label}
use Rattle.term.specs.TermAt.{NodeWords}
use Rattle.term.specs.TermEnd.{any_label, arity_of, children_of}
use Rattle.term.proofs.NodeLaw.{Node, children_node, count_is, role_is}

module _ (t d : ℤ) (n : NodeWords t d) where
  that : Node any_label t d n.count
  that = children_node any_label t d n.count n.is

  pub call_node : t ≡ pos call_tag → (c : ℕ) × CallNode c t d (children_of t d)
  call_node e = pick (role that.label) (role_is that)
    where
      pick : (r : Role) → NodeIs r t d n.count → (c : ℕ) × CallNode c t d (children_of t d)
      pick (a_variable v) x = absurd (let q = x.tag in let z : ◌≡◌ {A = ℕ} variable_tag call_tag = cc in let f : ⊥ = omega arith in f)
      pick (a_call c) x = (c, subst (CallNode c t d) (count_is that) x)
      pick plain x = absurd (x.no_call_lem (let q = x.tag in cc))

  -- a call's is its function's arity
  pub call_count : t ≡ pos call_tag → arity_of (nat_abs d) ≡ children_of t d
  unfolding arity_of
  call_count e = let x = call_node e in ap (λ (z : ℤ). arity_of (nat_abs z)) x.1.datum ∙ sym x.1.arity

  pub other_node : (t ≡ pos call_tag → ⊥) → plain_children t d ≡ children_of t d
  unfolding plain_children
  other_node f = pick (role that.label) (role_is that) ∙ count_is that
    where
      pick : (r : Role) → NodeIs r t d n.count → plain_children t d ≡ n.count
      pick (a_variable v) x = ap (λ (z : ℤ). plain_children z d) x.tag ∙ sym x.childless
      pick (a_call c) x = absurd (f x.tag)
      pick plain x = sym x.count

-- every label passes the test that all pass
pub any_label_lem : (f : Forest) → T (every_label any_label f)
any_label_lem nil = tt
any_label_lem (node l cs ss) = labels_all any_label l cs ss tt (any_label_lem cs) (any_label_lem ss)
