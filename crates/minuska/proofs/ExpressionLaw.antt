-- ⊨e as A.1.2 has it: its first clause is "ρ, g ⊨e e if ρ, g ⊨E e for any e : E". `Instantiates` has no such clause, and needs none.
use mathlib.Core.Logic.{◌↔◌}
use lib.Dec.{T}
use Rattle.minuska.specs.Term.{Forest, nil, node, Role, a_variable, a_call, plain, role, ground_at, is_ground}
use Rattle.minuska.specs.Satisfaction.{Valuation, Evaluates, Instantiates}
use Rattle.minuska.specs.Rule.{inner_at, in_expression, expression_at, is_expression, is_expression_term}
use Rattle.minuska.proofs.Tests.{and_left, and_right, and_both, and_parts}
use Rattle.minuska.proofs.ValueLaw.{evaluates_value, value_evaluates, instantiates_value, value_instantiates}

-- ground terms are expression terms, and so are expressions
ground_term : (f : Forest) → T (is_ground f) → T (is_expression_term f)
ground_term nil x = tt
ground_term (node l cs ss) x =
    let o = and_parts (ground_at (role l)) (is_ground cs) (is_ground ss) x in
    and_both (expression_at (role l) (is_expression cs) (is_expression_term cs)) (is_expression_term ss)
    (at (role l) o.0 (ground_term cs o.1)) (ground_term ss o.2)
  where
    at : (r : Role) → T (ground_at r) → T (is_expression_term cs) → T (expression_at r (is_expression cs) (is_expression_term cs))
    at (a_variable v) g k = absurd g
    at (a_call c) g k = absurd g
    at plain g k = k

pub expression_term : (f : Forest) → T (is_expression f) → T (is_expression_term f)
expression_term nil x = tt
expression_term (node l cs ss) x =
    let a = inner_at (role l) (is_expression cs) (is_ground cs) in
    let b = is_expression ss in
    and_both (expression_at (role l) (is_expression cs) (is_expression_term cs)) (is_expression_term ss) (at (role l) (and_left a b x)) (expression_term ss (and_right a b x))
  where
    at : (r : Role) → T (inner_at r (is_expression cs) (is_ground cs)) → T (expression_at r (is_expression cs) (is_expression_term cs))
    at (a_variable v) g = g
    at (a_call c) g = and_right (in_expression c) (is_expression cs) g
    at plain g = ground_term cs g

-- ON EXPRESSIONS THE TWO RELATIONS ARE ONE
pub expression_iff : (ρ : Valuation) (f g : Forest) → T (is_expression f) → Instantiates ρ f g ↔ Evaluates ρ f g
expression_iff ρ f g x = (
  (λ h. value_evaluates ρ f g x (instantiates_value ρ f g (expression_term f x) h)),
  λ h. value_instantiates ρ f g (expression_term f x) (evaluates_value ρ f g x h),
)
