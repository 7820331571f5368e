-- A term in range stands at a place, be it ground or not, its dictionaries in order or not; whatever such term stands there, it ends at r. And two words that are a node's.
use Rattle.std.specs.Prelude.{◌≡◌, List, ℕ, ◌+◌, T, ℤ, length}
use Rattle.minuska.specs.Term.{Term, single}
use Rattle.minuska.specs.Word.{encode}
use Rattle.minuska.specs.Bridge.Shape.{shapely}
use Rattle.minuska.specs.Bridge.Place.{Stands}
use Rattle.term.specs.TermEnd.{any_label, WalkedNode}

pub record TermAt (ws : List ℤ) (at : ℕ) : Type 0 where
  pub term : Term
  pub shape : T (shapely (single term))
  pub stands : Stands ws at (encode (single term))

pub record TermEnds (ws : List ℤ) (at r : ℕ) : Type 0 where
  pub ends : (t : Term) → T (shapely (single t)) → Stands ws at (encode (single t)) → r ≡ at + length (encode (single t))

abbrev pub NodeWords : ℤ → ℤ → Type 0
NodeWords t d = WalkedNode any_label t d
