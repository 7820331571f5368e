-- A lookup: where the value at a key of a dictionary stands, and the value of a call of map.lookup.
use Rattle.std.specs.Prelude.{MatchOption, ◌≡◌, List, ℕ, ◌+◌, T, ℤ, pos, length}
use Rattle.std.proofs.Math.Option.{Option, none, some}
use Rattle.minuska.specs.Basics.{◌>>=◌}
use Rattle.minuska.specs.Term.{Term, cons, single, is_ground}
use Rattle.minuska.specs.Dictionary.{find}
use Rattle.minuska.specs.Word.{ok, encode}
use Rattle.minuska.specs.Function.{as_dictionary, interpret}
use Rattle.minuska.specs.Bridge.Place.{Stands}
use Rattle.minuska.specs.Bridge.Walk.{looking}
use Rattle.value.specs.Root.{PartOrError}
use Rattle.value.specs.Value.{IsValue}
use Rattle.std.specs.Prelude as S
use Rattle.term.specs.declared.Span.{Span}
use Rattle.value.specs.declared.Value.{Value}

-- a ground term stands at a place
pub record TermHere (ws : List ℤ) (at : ℕ) (t : Term) : Type 0 where
  pub good : T (ok (single t))
  pub grounded : T (is_ground (single t))
  pub stands : Stands ws at (encode (single t))

pub record TermIn (ws : List ℤ) (at : ℕ) : Type 0 where
  pub term : Term
  pub here : TermHere ws at term

-- the value at a key, if the term is a dictionary that has one
abbrev pub value_of : ℤ → Term → Option Term
value_of k t = as_dictionary t >>= find k

-- a part, or none
abbrev pub Part : Type 0
Part = S.Option Span

-- WHAT IS FOUND: where that value stands, exactly if there is one
pub record FoundTerm (ws : List ℤ) (o : Option Term) (r : Span) : Type 0 where
  pub term : Term
  pub is : o ≡ some term
  pub stands : Stands ws r.from (encode (single term))
  pub ends : r.to ≡ r.from + length (encode (single term))

abbrev pub Finds : List ℤ → Option Term → Part → Type 0
Finds ws o r = MatchOption r (o ≡ none) (FoundTerm ws o)

-- of whatever ground term stands there
pub record FoundIs (ws : List ℤ) (at : ℕ) (key : ℤ) (r : Part) : Type 0 where
  pub is : (t : Term) → TermHere ws at t → Finds ws (value_of key t) r

-- THE VALUE OF A LOOKUP, of whatever terms its arguments' values are
pub record LookupContract (table config : List ℤ) (d k r : Value) : Type 0 where
  pub is : (s t : Term) → IsValue table config d s → IsValue table config k t → IsValue table config r (interpret looking (cons s (single t)))
  pub place : PartOrError r
