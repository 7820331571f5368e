-- Refusals 3, 4 and 5 by numbers alone, and what holds where there is none.
use Rattle.std.specs.Prelude.{◌≡◌, Bool, false, ◌||◌, cond, List, [], ◌∷◌, ℕ, ◌≤◌, ◌<◌, eqb, ltb, Result, Ok, Err}
use Rattle.minuska.specs.declared.Refusal.{Refusal}
use Rattle.minuska.specs.Rule.{max_nodes}
use Rattle.minuska.specs.Computed.Outcome.{Test, size_tests}

-- the first test that passes: "lower numbers go first"
abbrev pub first_test : List Test → Result (Unit {0}) Refusal
first_test [] = Ok tt
first_test (t ∷ ts) = cond t.given (Err t.refusal) (first_test ts)

-- 4: "N is 0, above 32,768, or below the opening's nodes"
abbrev pub limit_outside : ℕ → ℕ → Bool
limit_outside limit nodes = eqb limit 0 || ltb max_nodes limit || ltb limit nodes

-- 3: "log above 4,096 or budget above 1,000,000"; 5: "a slice is shorter than stated"
unfoldable pub size_check : ℕ → ℕ → ℕ → ℕ → Bool → Result (Unit {0}) Refusal
size_check count most nodes limit short = first_test (size_tests (ltb most count) (limit_outside limit nodes) short)

-- none of them
pub record SizesHold (count most nodes limit : ℕ) (short : Bool) : Type 0 where
  pub few : count ≤ most
  pub positive : 0 < limit
  pub bounded : limit ≤ max_nodes
  pub fits : nodes ≤ limit
  pub roomy : short ≡ false
