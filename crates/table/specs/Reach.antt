-- How far a walk over terms of one level has come, whatever is still to come behind them.
use Rattle.std.specs.Prelude.{◌≡◌, Bool, true, false, List, ◌++◌, ℕ, ◌+◌, ◌≤◌, ℤ, length, drop, replicate, Option, Some, None}
use Rattle.std.proofs.Math.Option.{none}
use Rattle.term.specs.TermEnd.{NoneMet}
use Rattle.table.specs.Level.{Level, Left, Right, Expression, Ground}
use Rattle.table.specs.declared.expression.Turn.{Turn}
use Rattle.term.specs.declared.ground.Walked.{Walked}
use Rattle.table.specs.Walk.{walk}

-- The walk over k terms from a place comes to another place, where m are still to come.
pub record Reaches (ws : List ℤ) (l : Level) (at k : ℕ) (seen : List Bool) (e m : ℕ) (seen' : List Bool) : Type 0 where
  pub later : at ≤ e
  pub inside : e ≤ length ws
  pub same : (ls : List Level) → walk (drop at ws) at (replicate k l ++ ls) seen ≡ walk (drop e ws) e (replicate m l ++ ls) seen'

-- It ends nowhere.
pub record Stops (ws : List ℤ) (l : Level) (at k : ℕ) (seen seen' : List Bool) : Type 0 where
  pub nowhere : (ls : List Level) → walk (drop at ws) at (replicate k l ++ ls) seen ≡ record { end = none; seen = seen' }

-- What one turn answers: it takes a node or more, and no more terms are to come for it than a symbol or a call has children.
pub record TurnOn (ws : List ℤ) (l : Level) (i : ℕ) (seen seen' : List Bool) (e m : ℕ) : Type 0 where
  pub on : i + 2 ≤ e
  pub few : m ≤ 7
  pub reaches : Reaches ws l i 1 seen e m seen'

-- What says that no dictionary was met is right.
pub record Met (ws : List ℤ) (from to : ℕ) (met : Bool) : Type 0 where
  pub none : met ≡ false → NoneMet ws from to

-- A walk below no left leaves the flags, whatever it finds.
abbrev pub Kept : Level → List Bool → List Bool → Type 0
Kept Left seen seen' = Unit {0}
Kept Right seen seen' = seen' ≡ seen
Kept Expression seen seen' = seen' ≡ seen
Kept Ground seen seen' = seen' ≡ seen

-- What is left, and said, where a walk finds nothing: a walk that knows dictionaries says that it ends nowhere, another says nothing.
pub record Missed (mixed : Bool) (ws : List ℤ) (l : Level) (at k : ℕ) (seen seen' : List Bool) : Type 0 where
  pub kept : Kept l seen seen'
  pub nowhere : mixed ≡ true → Stops ws l at k seen seen'

-- What a turn answers. A walk that knows no dictionary meets none.
pub record Turned (mixed : Bool) (ws : List ℤ) (l : Level) (i : ℕ) (seen seen' : List Bool) (e m : ℕ) (met : Bool) : Type 0 where
  pub turn : TurnOn ws l i seen seen' e m
  pub order : Met ws i e met
  pub unmet : mixed ≡ false → met ≡ false

abbrev pub TurnIs : Bool → List ℤ → Level → ℕ → List Bool → List Bool → Option Turn → Type 0
TurnIs mixed ws l i seen seen' (Some t) = Turned mixed ws l i seen seen' t.end t.more t.met
TurnIs mixed ws l i seen seen' None = Missed mixed ws l i 1 seen seen'

-- What a loop answers: the place behind all, and whether a dictionary was met.
pub record Ends (mixed : Bool) (ws : List ℤ) (l : Level) (at k : ℕ) (seen seen' : List Bool) (e : ℕ) (met : Bool) : Type 0 where
  pub reaches : Reaches ws l at k seen e 0 seen'
  pub order : Met ws at e met
  pub unmet : mixed ≡ false → met ≡ false

abbrev pub EndIs : Bool → List ℤ → Level → ℕ → ℕ → List Bool → List Bool → Option Walked → Type 0
EndIs mixed ws l at k seen seen' (Some t) = Ends mixed ws l at k seen seen' t.end t.met
EndIs mixed ws l at k seen seen' None = Missed mixed ws l at k seen seen'

-- What is answered of ground terms, whatever is flagged.
pub record GroundEndIs (mixed : Bool) (ws : List ℤ) (at k : ℕ) (r : Option Walked) : Type 0 where
  pub is : (seen : List Bool) → EndIs mixed ws Ground at k seen seen r
