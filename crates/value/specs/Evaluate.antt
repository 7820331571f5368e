-- What stands in the table where an expression is evaluated, and what is answered: "A literal or a variable is worth a term: the answer is a part of the
-- table or a part of the configuration, uncopied. .. An expression's value needs its argument list, and an argument list its expressions." "A condition
-- holds if both sides have the same value."
use Rattle.std.specs.Prelude.{◌≡◌, ◌↔◌, Bool, List, ℕ, ◌+◌, T, ltb, ℤ, pos, length, get_or}
use Rattle.std.proofs.Math.Option.{some}
use Rattle.minuska.specs.Term.{error, Forest, nil, node, Term, leaf, single, term_count, Role, a_variable, a_call, plain, role}
use Rattle.minuska.specs.Word.{ok, encode}
use Rattle.minuska.specs.Rule.{is_expression}
use Rattle.minuska.specs.Satisfaction.{Valuation, SideCondition, Evaluates, Holds}
use Rattle.minuska.specs.Computed.Value.{value, values, holds}
use Rattle.minuska.specs.Bridge.Place.{Stands, Binds}
use Rattle.value.specs.Root.{Given}
use Rattle.value.specs.Value.{value_words, IsValue}
use Rattle.value.specs.declared.Value.TheVariants.{Table, Configuration}
use Rattle.value.specs.declared.Evaluated.{Evaluated}
use Rattle.value.specs.declared.Tested.{Tested}

-- the first term of a list, and the rest; of an empty one nothing, or, as a term, error
abbrev pub first_of : Forest → Forest
first_of nil = nil
first_of (node l cs ss) = node l cs nil

abbrev pub first_term : Forest → Term
first_term nil = leaf error
first_term (node l cs ss) = record { label = l; children = cs }

abbrev pub rest_of : Forest → Forest
rest_of nil = nil
rest_of (node l cs ss) = ss

module _ (table config : List ℤ) (starts ends : List ℕ) (at : ℕ) where
  -- Good expressions stand at a place of the table, and a valuation is bound to parts of the configuration.
  pub record Placed (ρ : Valuation) (es : Forest) : Type 0 where
    pub good : T (ok es)
    pub expressions : T (is_expression es)
    pub stands : Stands table at (encode es)
    pub binds : Binds config starts ends ρ

  -- AN EXPRESSION with a value. It is required that one stands there, and ensured of whatever one stands there.
  pub record HasValue (ρ : Valuation) (e t : Term) : Type 0 where
    pub placed : Placed ρ (single e)
    pub is : value ρ e ≡ some t

  pub record ExpressionIn : Type 0 where
    pub valuation : Valuation
    pub expression : Term
    pub term : Term
    pub has : HasValue valuation expression term

  -- where the value is: a variable's part of the configuration, a literal's part of the table; a call's as its function gives it
  abbrev pub Where : Role → Term → Evaluated → Type 0
  Where (a_variable v) t r = r.value ≡ Configuration (record { from = get_or starts v 0; to = get_or ends v 0 })
  Where (a_call c) t r = Given c t r.value
  Where plain t r = r.value ≡ Table (record { from = at; to = r.next })

  pub record Meant (e t : Term) (r : Evaluated) : Type 0 where
    pub is : IsValue table config r.value t
    pub place : Where (role e.label) t r
    pub next : r.next ≡ at + length (encode (single e))

  pub record EvaluateContract (r : Evaluated) : Type 0 where
    pub meant : (ρ : Valuation) (e t : Term) → HasValue ρ e t → Meant e t r
    pub satisfied : (ρ : Valuation) (e t : Term) → Placed ρ (single e) → Evaluates ρ (single e) (single t) → value_words table config r.value ≡ encode (single t)

  -- A CALL
  pub record CallIn : Type 0 where
    pub expression : ExpressionIn
    pub tag : get_or table at (pos 0) ≡ pos 4

  -- AN ARGUMENT LIST: its first value, error where there is none. The rest of the list stands behind it.
  pub record HaveValues (ρ : Valuation) (es xs : Forest) : Type 0 where
    pub placed : Placed ρ es
    pub are : values ρ es ≡ some xs

  pub record ArgumentsIn (wanted : Bool) : Type 0 where
    pub valuation : Valuation
    pub expressions : Forest
    pub terms : Forest
    pub have : HaveValues valuation expressions terms
    pub some : wanted ≡ ltb 0 (term_count expressions)

  pub record FirstMeant (es xs : Forest) (r : Evaluated) : Type 0 where
    pub is : IsValue table config r.value (first_term xs)
    pub next : r.next ≡ at + length (encode (first_of es))

  pub record ArgumentsContract (wanted : Bool) (r : Evaluated) : Type 0 where
    pub meant : (ρ : Valuation) (es xs : Forest) → HaveValues ρ es xs → wanted ≡ ltb 0 (term_count es) → FirstMeant es xs r

-- A VARIABLE OR A LITERAL: its value is found in the table and the arrays, whatever the configuration holds there.
module _ (table : List ℤ) (starts ends : List ℕ) (at : ℕ) where
  pub record LeafIn : Type 0 where
    pub config : List ℤ
    pub expression : ExpressionIn table config starts ends at
    pub tag : get_or table at (pos 0) ≡ pos 4 → ⊥

  pub record LeafContract (r : Evaluated) : Type 0 where
    pub over : (config : List ℤ) → EvaluateContract table config starts ends at r

-- A SIDE CONDITION: two expressions one behind the other, both with a value.
module _ (table config : List ℤ) (starts ends : List ℕ) (at : ℕ) where
  pub record ConditionAt (ρ : Valuation) (c : SideCondition) : Type 0 where
    pub first : Term
    pub second : Term
    pub first_has : HasValue table config starts ends at ρ c.first first
    pub second_has : HasValue table config starts ends (at + length (encode (single c.first))) ρ c.second second

  pub record ConditionIn : Type 0 where
    pub valuation : Valuation
    pub condition : SideCondition
    pub stands : ConditionAt valuation condition

  pub record ConditionMeant (ρ : Valuation) (c : SideCondition) (r : Tested) : Type 0 where
    pub holds : r.holds ≡ holds ρ c
    pub satisfied : T r.holds ↔ Holds ρ c
    pub next : r.next ≡ at + length (encode (single c.first)) + length (encode (single c.second))

  pub record ConditionContract (r : Tested) : Type 0 where
    pub meant : (ρ : Valuation) (c : SideCondition) → ConditionAt ρ c → ConditionMeant ρ c r
