-- A call of two short arguments that is no lookup: variables, or literals without children. A variable's tag is 3, and those of literals without children are below
-- it, but for a symbol's and an empty dictionary's.
use Rattle.std.specs.Prelude.{◌≡◌, true, List, ℕ, ◌+◌, ℤ, pos, nat_abs, get_or}
use Rattle.std.specs.Int.Signed.{lt_z}
use Rattle.minuska.specs.Term.{Term, term_count}
use Rattle.minuska.specs.Satisfaction.{Valuation}
use Rattle.minuska.specs.Function.{function_at}
use Rattle.minuska.specs.Bridge.Walk.{looking}
use Rattle.value.specs.Root.{Head}
use Rattle.value.specs.Evaluate.{HasValue, ExpressionIn, EvaluateContract, CallIn}
use Rattle.value.specs.declared.Value.TheVariants.{Computed}
use Rattle.value.specs.declared.builtin.Root.{Root}

module _ (table : List ℤ) (at : ℕ) where
  pub record CallThere : Type 0 where
    pub config : List ℤ
    pub starts : List ℕ
    pub ends : List ℕ
    pub call : CallIn table config starts ends at

  pub record Short : Type 0 where
    pub no_lookup : nat_abs (get_or table (at + 1) (pos 0)) ≡ looking → ⊥
    pub two : (function_at (nat_abs (get_or table (at + 1) (pos 0)))).arity ≡ 2
    pub first : lt_z (get_or table (at + 2) (pos 0)) (pos 4) ≡ true
    pub second : lt_z (get_or table (at + 4) (pos 0)) (pos 4) ≡ true

-- where their variables end does not matter
module _ (table config : List ℤ) (starts : List ℕ) (at : ℕ) where
  pub record ShortIn : Type 0 where
    pub ends : List ℕ
    pub call : CallIn table config starts ends at
    pub short : Short table at

  pub record ShortContract (r : Root) : Type 0 where
    pub over : (ends : List ℕ) → EvaluateContract table config starts ends at (record { value = Computed r; next = at + 6 })

  pub record ArgumentIn : Type 0 where
    pub ends : List ℕ
    pub expression : ExpressionIn table config starts ends at
    pub low : lt_z (get_or table at (pos 0)) (pos 4) ≡ true

  pub record ArgumentContract (r : Root) : Type 0 where
    pub over : (ends : List ℕ) (ρ : Valuation) (e t : Term) → HasValue table config starts ends at ρ e t → Head r t.label (term_count t.children)
