-- Dictionaries in order, as the code walks them: terms that stand from a place up to another, the entries of one dictionary, and what is answered of them.
use Rattle.std.specs.Prelude.{◌≡◌, Bool, List, ℕ, ◌+◌, ◌*◌, T, ℤ, length}
use Rattle.minuska.specs.Bridge.Place.{Stands}
use Rattle.minuska.specs.Bridge.Shape.{shapely, ordered, closed}
use Rattle.minuska.specs.Dictionary.{entries, all_rise}
use Rattle.minuska.specs.Term.{Forest, term_count, is_ground}
use Rattle.minuska.specs.Word.{encode}

-- Terms in range stand exactly from a place up to another, and what is below a dictionary of theirs is ground.
pub record FillsTo (ws : List ℤ) (from to : ℕ) (f : Forest) : Type 0 where
  pub shape : T (shapely f)
  pub below : T (closed f)
  pub stands : Stands ws from (encode f)
  pub ends : to ≡ from + length (encode f)

pub record Filled (ws : List ℤ) (from to : ℕ) : Type 0 where
  pub forest : Forest
  pub fills : FillsTo ws from to forest

-- Whatever such terms stand there, r says whether their dictionaries are in order.
pub record InOrder (ws : List ℤ) (from to : ℕ) (r : Bool) : Type 0 where
  pub is : (f : Forest) → FillsTo ws from to f → r ≡ ordered f

-- So many entries stand at a place: their keys and values in turn, ground terms in range.
pub record EntriesOf (ws : List ℤ) (at n : ℕ) (f : Forest) : Type 0 where
  pub shape : T (shapely f)
  pub grounded : T (is_ground f)
  pub count : term_count f ≡ 2 * n
  pub stands : Stands ws at (encode f)

pub record EntriesAt (ws : List ℤ) (at n : ℕ) : Type 0 where
  pub forest : Forest
  pub are : EntriesOf ws at n forest

-- Whatever entries stand there: "keys being whole numbers in strictly rising order".
pub record Rises (ws : List ℤ) (at n : ℕ) (r : Bool) : Type 0 where
  pub is : (f : Forest) → EntriesOf ws at n f → r ≡ all_rise (entries f)
