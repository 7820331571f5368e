-- An update: where its entry goes among a dictionary's entries, and its words.
use Rattle.std.specs.Prelude.{◌≡◌, List, [], ◌∷◌, ◌++◌, ℕ, suc, ◌≤◌, ℤ, pos, length, take, drop, Option, None, Some, IfSome}
use Rattle.minuska.specs.Term.{Term, cons, single}
use Rattle.minuska.specs.Dictionary.{max_entries}
use Rattle.minuska.specs.Word.{encode}
use Rattle.minuska.specs.Function.{interpret}
use Rattle.minuska.specs.Rule.{updating}
use Rattle.value.specs.Value.{value_words, IsValue}
use Rattle.value.specs.declared.Value.{Value}
use Rattle.value.specs.declared.update.Plan.{Plan}

-- the words up to a place, an entry's key and value, and the words from another place on
unfoldable pub placed : List ℤ → ℕ → ℕ → ℤ → List ℤ → List ℤ
placed ws from to k vs = ((take from ws ++ (pos 2 ∷ k ∷ [])) ++ vs) ++ drop to ws

-- the words that a plan says, from a dictionary's words and a value's; with no plan, error's
unfoldable pub plan_words : List ℤ → Option Plan → List ℤ → List ℤ
plan_words xs None vs = pos 0 ∷ pos 0 ∷ []
plan_words xs (Some p) vs = pos 5 ∷ pos p.count ∷ placed (drop 2 xs) p.replaced.from p.replaced.to p.key vs

-- its part lies within the entries' words
pub record PlanFits (ws : List ℤ) (p : Plan) : Type 0 where
  pub order : p.replaced.from ≤ p.replaced.to
  pub within : p.replaced.to ≤ length ws
  pub few : p.count ≤ suc max_entries

-- WHAT AN UPDATE IS WORTH, of whatever terms its arguments' values are: the words that the plan says
pub record PlanContract (table config : List ℤ) (d k : Value) (r : Option Plan) : Type 0 where
  pub is : (s t v : Term) → IsValue table config d s → IsValue table config k t → encode (single (interpret updating (cons s (cons t (single v))))) ≡ plan_words (value_words table config d) r (encode (single v))
  pub fits : IfSome r (PlanFits (drop 2 (value_words table config d)))
