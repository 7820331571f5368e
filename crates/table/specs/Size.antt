-- The sizes of the terms that a side's walk has passed over, whatever trees stand there: what its turn, its loop and a side of a rule answer.
use Rattle.std.specs.Prelude.{◌≡◌, Bool, false, List, ℕ, ◌+◌, ◌-◌, ◌*◌, ◌≤◌, ℤ, T, Option, Some, None}
use Rattle.minuska.specs.Term.{Forest, term_count}
use Rattle.minuska.specs.Word.{ok, encode}
use Rattle.minuska.specs.Bridge.Place.{Stands}
use Rattle.minuska.specs.Bridge.Walk.{fixed_nodes, variable_nodes}
use Rattle.table.specs.Level.{Level}
use Rattle.table.specs.declared.side.SideTurn.{SideTurn}
use Rattle.table.specs.declared.side.SideEnd.{SideEnd}
use Rattle.table.specs.declared.walk.Measured.{Measured}
use Rattle.table.specs.Walk.{PartContract}
use Rattle.table.specs.Reach.{Reaches, Missed, TurnOn, Met}

-- What is left of some terms: k terms that stand at a place. All before them has these sizes.
pub record Remains (ws : List ℤ) (f : Forest) (e k fixed leaves : ℕ) : Type 0 where
  pub rest : Forest
  pub good : T (ok rest)
  pub count : term_count rest ≡ k
  pub stands : Stands ws e (encode rest)
  pub ones : fixed_nodes f ≡ fixed + fixed_nodes rest
  pub variables : variable_nodes f ≡ leaves + variable_nodes rest

-- A walk over n terms from a place has come to another place, where k are still to come, and has passed over nodes of these sizes, whatever is still to come
-- behind them.
pub record Counts (ws : List ℤ) (at n e k fixed leaves : ℕ) : Type 0 where
  pub remains : (f : Forest) (more : ℕ) → T (ok f) → term_count f ≡ n + more → Stands ws at (encode f) → Remains ws f e (k + more) fixed leaves

-- What one turn answers: how far it comes, and the sizes of what it took, which are few by its words. A walk that knows no dictionary meets none.
pub record SideTurnOn (mixed : Bool) (ws : List ℤ) (l : Level) (i : ℕ) (seen seen' : List Bool) (e m fixed leaves : ℕ) (met : Bool) : Type 0 where
  pub turn : TurnOn ws l i seen seen' e m
  pub small : fixed + leaves ≤ 2 * (e - i)
  pub counts : Counts ws i 1 e m fixed leaves
  pub order : Met ws i e met
  pub unmet : mixed ≡ false → met ≡ false

abbrev pub SideTurnIs : Bool → List ℤ → Level → ℕ → List Bool → List Bool → Option SideTurn → Type 0
SideTurnIs mixed ws l i seen seen' (Some t) = SideTurnOn mixed ws l i seen seen' t.end t.more t.sizes.fixed t.sizes.leaves t.met
SideTurnIs mixed ws l i seen seen' None = Missed mixed ws l i 1 seen seen'

-- What is answered of a dictionary, whatever the level.
pub record LiteralTurnIs (mixed : Bool) (ws : List ℤ) (i : ℕ) (r : Option SideTurn) : Type 0 where
  pub at : (l : Level) (seen : List Bool) → SideTurnIs mixed ws l i seen seen r

-- What the loop answers: the place behind the side, its sizes, and whether a dictionary was met.
pub record SideEnds (mixed : Bool) (ws : List ℤ) (l : Level) (at : ℕ) (seen seen' : List Bool) (e fixed leaves : ℕ) (met : Bool) : Type 0 where
  pub reaches : Reaches ws l at 1 seen e 0 seen'
  pub counts : Counts ws at 1 e 0 fixed leaves
  pub order : Met ws at e met
  pub unmet : mixed ≡ false → met ≡ false

abbrev pub SideIs : Bool → List ℤ → Level → ℕ → List Bool → List Bool → Option SideEnd → Type 0
SideIs mixed ws l at seen seen' (Some t) = SideEnds mixed ws l at seen seen' t.end t.sizes.fixed t.sizes.leaves t.met
SideIs mixed ws l at seen seen' None = Missed mixed ws l at 1 seen seen'

-- What is found at a place where a side should start: the place behind it, and its sizes.
abbrev pub place_of : Option Measured → Option ℕ
place_of (Some s) = Some s.end
place_of None = None

pub record SidePartContract (ws : List ℤ) (at : ℕ) (l : Level) (seen seen' : List Bool) (r : Option Measured) : Type 0 where
  pub part : PartContract ws at l seen seen' (place_of r)
  pub sizes : (s : Measured) → r ≡ Some s → Counts ws at 1 s.end 0 s.sizes.fixed s.sizes.leaves
