-- A rule's conditions, one behind the other: two expressions each, all worth a term.
use Rattle.std.specs.Prelude.{◌≡◌, List, [], ◌∷◌, ℕ, ◌+◌, T, ℤ, length, Result, Ok, Err}
use Rattle.std.proofs.Math.Option.{Option, none, some}
use Rattle.minuska.specs.Term.{Term, single}
use Rattle.minuska.specs.Word.{ok}
use Rattle.minuska.specs.Satisfaction.{Valuation, SideCondition}
use Rattle.minuska.specs.Rule.{is_expression, condition_words}
use Rattle.minuska.specs.Computed.Value.{value}
use Rattle.minuska.specs.Computed.Reasons.{failing}
use Rattle.minuska.specs.Bridge.Place.{Stands, Binds}
use Rattle.value.specs.declared.Scope.{Scope}

-- the first of some facts that fails, as the code has it: none does, or its number
abbrev pub failed_by : Option ℕ → Result (Unit {0}) ℕ
failed_by none = Ok tt
failed_by (some k) = Err k

pub record SideWorth (ρ : Valuation) (e : Term) : Type 0 where
  pub good : T (ok (single e))
  pub expression : T (is_expression (single e))
  pub term : Term
  pub is : value ρ e ≡ some term

abbrev pub SidesWorth : Valuation → List SideCondition → Type 0
SidesWorth ρ [] = Unit {0}
SidesWorth ρ (c ∷ cs) = SideWorth ρ c.first × SideWorth ρ c.second × SidesWorth ρ cs

module _ (ws cs : List ℤ) (starts ends : List ℕ) where
  -- they stand from a place up to another
  pub record StandingConditions (at end : ℕ) (ρ : Valuation) (conds : List SideCondition) : Type 0 where
    pub sides : SidesWorth ρ conds
    pub stands : Stands ws at (condition_words conds)
    pub up_to : end ≡ at + length (condition_words conds)
    pub binds : Binds cs starts ends ρ

  pub record SomeConditions (at end : ℕ) : Type 0 where
    pub valuation : Valuation
    pub conditions : List SideCondition
    pub is : StandingConditions at end valuation conditions

  pub record HoldAllIs (at end : ℕ) (r : Result (Unit {0}) ℕ) : Type 0 where
    pub is : (ρ : Valuation) (conds : List SideCondition) → StandingConditions at end ρ conds → r ≡ failed_by (failing ρ conds)

-- the same over a scope, as the code's contracts name it
module _ (s : Scope) where
  abbrev pub ConditionsHere : ℕ → ℕ → Type 0
  ConditionsHere at end = SomeConditions s.table.now s.configuration.now s.places.now.starts s.places.now.ends at end

  abbrev pub HoldAllIsHere : ℕ → ℕ → Result (Unit {0}) ℕ → Type 0
  HoldAllIsHere at end r = HoldAllIs s.table.now s.configuration.now s.places.now.starts s.places.now.ends at end r
