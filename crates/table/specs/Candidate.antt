-- The rules that are tried: a number that names none, the next rule whose left may match, and the first.
use Rattle.std.specs.Prelude.{◌≡◌, List, ℕ, ◌+◌, ◌<◌, ℤ}
use Rattle.std.proofs.Math.Option.{none}
use Rattle.std.proofs.Math.ListN.{get_elem?}
use Rattle.minuska.specs.Rule.{Table, IsTable}
use Rattle.minuska.specs.Bridge.Place.{RuleCountIs, OrderedIs, SeekIs}

-- a number names no rule
pub record Unnamed (ws : List ℤ) (n : ℕ) : Type 0 where
  pub none : (t : Table) → IsTable ws t → get_elem? t n ≡ none

-- The rule at the first position from one on, up to another, that is not passed over; the next is sought behind it.
pub record CandidateIs (ws : List ℤ) (root from to : ℕ) (n root' from' to' : ℕ) : Type 0 where
  pub position : ℕ
  pub sought : SeekIs ws root from to position
  pub below : position < to
  pub ordered : OrderedIs ws position n
  pub behind : from' ≡ position + 1
  pub same_root : root' ≡ root
  pub same_end : to' ≡ to

-- the same among all rules
pub record FirstIs (ws : List ℤ) (root : ℕ) (n root' from' to' : ℕ) : Type 0 where
  pub count : RuleCountIs ws to'
  pub candidate : CandidateIs ws root 0 to' n root' from' to'

-- all are passed over
pub record NoneFirst (ws : List ℤ) (root : ℕ) : Type 0 where
  pub to : ℕ
  pub count : RuleCountIs ws to
  pub passed : SeekIs ws root 0 to to
