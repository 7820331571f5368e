-- One step, computed: by a given rule, and by the earliest that applies. `proofs/StepLaw`: they meet `RuleClaim` and `StepClaim`.
use Rattle.std.specs.Prelude.{Bool, cond, List, [], ◌∷◌, ℕ, zero, suc, eqb, leb, length}
use Rattle.std.proofs.Math.Option.{Option, none, some}
use Rattle.std.proofs.Math.ListN.{get_elem?}
use Rattle.minuska.specs.Basics.{◌>>=◌, provided}
use Rattle.minuska.specs.Term.{Term, single, node_count}
use Rattle.minuska.specs.Rule.{Rule, Table}
use Rattle.minuska.specs.Answer.{StepResult, stepped, stuck, too_large}
use Rattle.minuska.specs.Computed.Match.{try_match, unbound}
use Rattle.minuska.specs.Computed.Value.{value, hold_all}

-- the successor by a rule, or nothing where it doesn't apply
abbrev pub successor : Rule → Term → Option Term
successor r g = try_match (single r.left) (single g) unbound >>= λ ρ. cond (hold_all ρ r.conditions) (value ρ r.right) none

-- by a number: one that names no rule doesn't apply
abbrev pub successor_by : Table → ℕ → Term → Option Term
successor_by table n g = get_elem? table n >>= λ r. successor r g

-- by a number whose rule carries the action
abbrev pub carries : ℕ → Rule → Bool
carries a r = eqb r.action a

abbrev pub next : Table → ℕ → ℕ → Term → Option Term
next table a n g = do
  r ← get_elem? table n
  x ← provided (carries a r) r
  successor_by table n g

-- the order in which rules are tried
abbrev pub up_from : ℕ → ℕ → List ℕ
up_from i zero = []
up_from i (suc k) = i ∷ up_from (suc i) k

abbrev pub order : Table → List ℕ
order table = up_from 0 (length table)

-- the first of some rules that applies, and its successor
abbrev pub or_next : ℕ → Option Term → Option (ℕ × Term) → Option (ℕ × Term)
or_next n none rest = rest
or_next n (some h) rest = some (n, h)

abbrev pub first_of : Table → List ℕ → Term → Option (ℕ × Term)
first_of table [] g = none
first_of table (n ∷ ns) g = or_next n (successor_by table n g) (first_of table ns g)

abbrev pub earliest : Table → Term → Option (ℕ × Term)
earliest table g = first_of table (order table) g

-- a rule's action; an answer with the rule's action, where the successor is within the limit
abbrev pub action_in : Option Rule → ℕ
action_in none = 0
action_in (some r) = r.action

abbrev pub sized : ℕ → ℕ → ℕ → Term → StepResult
sized limit n a h = cond (leb (node_count h) limit) (stepped n a h) too_large

abbrev pub answered : Table → ℕ → Option (ℕ × Term) → StepResult
answered table limit none = stuck
answered table limit (some nh) = sized limit nh.0 (action_in (get_elem? table nh.0)) nh.1

abbrev pub with_number : ℕ → Option Term → Option (ℕ × Term)
with_number n none = none
with_number n (some h) = some (n, h)

unfoldable pub step_by_rule : Table → ℕ → ℕ → Term → StepResult
step_by_rule table limit n g = answered table limit (with_number n (successor_by table n g))

unfoldable pub step : Table → ℕ → Term → StepResult
step table limit g = answered table limit (earliest table g)
