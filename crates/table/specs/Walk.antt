-- The walk over a term's words: the levels of the nodes still to come, the first first.
use Rattle.std.specs.Prelude.{◌≡◌, Bool, List, [], ◌∷◌, ◌++◌, ℕ, ◌+◌, ◌-◌, ℤ, leb, drop, replicate}
use Rattle.std.specs.Prelude as S
use Rattle.std.proofs.Math.Option.{Option, none, some}
use Rattle.minuska.specs.Basics.{◌>>=◌, provided, present}
use Rattle.minuska.specs.Computed.Read.{read_term}
use Rattle.table.specs.Level.{Level}
use Rattle.table.specs.Below.{Below}
use Rattle.table.specs.Below as B
use Rattle.table.specs.Node.{admitted, seen_after}
use Rattle.table.specs.Number.{answered}

-- the place behind the last node, if all passed; the variables flagged
pub record Walked : Type 0 where
  pub end : Option ℕ
  pub seen : List Bool

-- a node that passes has its children come next
abbrev pub onward : Below → List Level → List Bool → (List Level → List Bool → Walked) → Walked
onward B.Bad ls seen go = record { end = none; seen = seen }
onward (B.Are l k) ls seen go = go (replicate k l ++ ls) seen

abbrev pub walk : List ℤ → ℕ → List Level → List Bool → Walked
walk [] at [] seen = record { end = some at; seen = seen }
walk [] at (l ∷ ls) seen = record { end = none; seen = seen }
walk (t ∷ []) at [] seen = record { end = some at; seen = seen }
walk (t ∷ []) at (l ∷ ls) seen = record { end = none; seen = seen }
walk (t ∷ d ∷ ws) at [] seen = record { end = some at; seen = seen }
walk (t ∷ d ∷ ws) at (l ∷ ls) seen = onward (admitted l t d seen) ls (seen_after l t d seen) (λ ms s. walk ws (at + 2) ms s)

-- "Each term or expression has at most 512 nodes."
abbrev pub within : ℕ → Option ℕ → Option ℕ
within at o = o >>= λ e. provided (leb (e - at) 1024) e

-- one term of a kind, from a place on: the place behind it, and the flags afterwards
unfoldable pub part_walk : List ℤ → ℕ → Level → List Bool → Walked
part_walk ws at kind seen = walk (drop at ws) at (kind ∷ []) seen

-- "keys being whole numbers in strictly rising order": what was walked is read as a term
abbrev pub in_order : List ℤ → ℕ → Option ℕ → Option ℕ
in_order ws at o = o >>= λ e. provided (present (read_term (drop at ws))) e

abbrev pub part_end : List ℤ → ℕ → Level → List Bool → Option ℕ
part_end ws at kind seen = in_order ws at (within at (part_walk ws at kind seen).end)

abbrev pub part_seen : List ℤ → ℕ → Level → List Bool → List Bool
part_seen ws at kind seen = (part_walk ws at kind seen).seen

pub record PartContract (ws : List ℤ) (at : ℕ) (kind : Level) (seen seen' : List Bool) (r : S.Option ℕ) : Type 0 where
  pub answer : r ≡ answered (part_end ws at kind seen)
  pub leaves : seen' ≡ part_seen ws at kind seen
