-- What a walk over one term of a rule answers, that knows dictionaries or that knows none: the same where it finds something.
use Rattle.std.specs.Prelude.{◌≡◌, Bool, true, List, ℕ, ◌≤◌, ℤ, cond, Option, Some, None}
use Rattle.std.proofs.Math.Option.{none, some}
use Rattle.term.specs.Order.{Filled}
use Rattle.table.specs.Level.{Level, Expression}
use Rattle.table.specs.Reach.{Reaches, Met, Kept}
use Rattle.table.specs.Size.{SidePartContract}
use Rattle.table.specs.Walk.{part_end, PartContract}
use Rattle.table.specs.declared.walk.Measured.{Measured}

-- A walk from one place came to another, and met a dictionary or not.
pub record Ending (ws : List ℤ) (at e : ℕ) (met : Bool) : Type 0 where
  pub later : at ≤ e
  pub filled : Filled ws at e
  pub order : Met ws at e met

-- Whether what a walk over one term took is a term.
pub record TermIs (ws : List ℤ) (at e : ℕ) (r : Bool) : Type 0 where
  pub is : (l : Level) (seen seen' : List Bool) → Reaches ws l at 1 seen e 0 seen' → PartContract ws at l seen seen' (cond r (Some e) None)

-- the place behind an expression
abbrev pub ExpressionIs : Bool → List ℤ → ℕ → List Bool → Option ℕ → Type 0
ExpressionIs mixed ws at seen (Some e) = part_end ws at Expression seen ≡ some e
ExpressionIs mixed ws at seen None = mixed ≡ true → part_end ws at Expression seen ≡ none

-- a side
pub record SideMissed (mixed : Bool) (ws : List ℤ) (at : ℕ) (l : Level) (seen seen' : List Bool) : Type 0 where
  pub kept : Kept l seen seen'
  pub nowhere : mixed ≡ true → SidePartContract ws at l seen seen' None

abbrev pub SideFound : Bool → List ℤ → ℕ → Level → List Bool → List Bool → Option Measured → Type 0
SideFound mixed ws at l seen seen' (Some s) = SidePartContract ws at l seen seen' (Some s)
SideFound mixed ws at l seen seen' None = SideMissed mixed ws at l seen seen'
