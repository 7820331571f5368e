-- The words of a right, item by item: a plain node's two words, a variable's part, or a call's value.
use Rattle.std.specs.Prelude.{◌≡◌, Bool, true, List, ◌++◌, ℕ, ◌+◌, ◌≤◌, ◌<◌, T, leb, ℤ, pos, length, get_or}
use Rattle.std.proofs.Math.Option.{some}
use Rattle.minuska.specs.Term.{Forest, Term, cons, single}
use Rattle.minuska.specs.Word.{ok, encode}
use Rattle.minuska.specs.Satisfaction.{Valuation}
use Rattle.minuska.specs.Function.{interpret}
use Rattle.minuska.specs.Computed.Read.{call_tag}
use Rattle.minuska.specs.Rule.{updating, is_expression_term}
use Rattle.minuska.specs.Slice.{write}
use Rattle.minuska.specs.Bridge.Walk.{emit}
use Rattle.minuska.specs.Bridge.Place.{Stands, Binds}
use Rattle.term.specs.TermAt.{TermEnds}
use Rattle.value.specs.declared.Evaluated.{Evaluated}
use Rattle.value.specs.declared.Scope.{Scope}
use Rattle.value.specs.Value.{value_words, Within, IsValue}
use Rattle.value.specs.Copy.{PutContract}
use Rattle.step.specs.declared.right.Parts.{Parts}
use Rattle.step.specs.declared.right.Sized.{Sized}

module _ (ws cs : List ℤ) (starts ends : List ℕ) where
  -- from a place up to another stand the terms f of a right, and under ρ, whose terms the arrays place, they emit the words us
  pub record Rest (at end : ℕ) (ρ : Valuation) (f : Forest) (us : List ℤ) : Type 0 where
    pub good : T (ok f)
    pub shape : T (is_expression_term f)
    pub stands : Stands ws at (encode f)
    pub up_to : end ≡ at + length (encode f)
    pub emits : emit ρ f ≡ some us
    pub binds : Binds cs starts ends ρ

  pub record SomeRest (at end : ℕ) : Type 0 where
    pub valuation : Valuation
    pub terms : Forest
    pub words : List ℤ
    pub is : Rest at end valuation terms words

  -- the words vs are the next that are emitted, and the rest goes on from a place further on
  pub record LeadsOn (at end : ℕ) (ρ : Valuation) (us vs : List ℤ) (next : ℕ) : Type 0 where
    pub later : Forest
    pub words : List ℤ
    pub parted : vs ++ words ≡ us
    pub forward : at < next
    pub rest : Rest next end ρ later words

  -- one item: its words are the next, and the rest goes on behind it
  pub record ItemOf (at end : ℕ) (ρ : Valuation) (us : List ℤ) (r : Evaluated) : Type 0 where
    pub within : Within ws cs r.value
    pub leads : LeadsOn at end ρ us (value_words ws cs r.value) r.next

  pub record ItemIs (at end : ℕ) (r : Evaluated) : Type 0 where
    pub is : (ρ : Valuation) (f : Forest) (us : List ℤ) → Rest at end ρ f us → ItemOf at end ρ us r

  -- one item's size: the next words are as many
  pub record SizedOf (at end : ℕ) (ρ : Valuation) (us : List ℤ) (r : Sized) : Type 0 where
    pub first : List ℤ
    pub many : r.words ≡ length first
    pub leads : LeadsOn at end ρ us first r.next

  pub record SizedIs (at end : ℕ) (r : Sized) : Type 0 where
    pub is : (ρ : Valuation) (f : Forest) (us : List ℤ) → Rest at end ρ f us → SizedOf at end ρ us r

  -- all items: whether there is room for their words; the words themselves, written from the start of a slice, and how many
  pub record MeasureRightIs (at end room : ℕ) (r : Bool) : Type 0 where
    pub is : (ρ : Valuation) (f : Forest) (us : List ℤ) → Rest at end ρ f us → r ≡ leb (length us) room

  -- one item, written from the start of a slice: some item that stands there, and the slice with its words put there
  pub record FittingItem (at end room : ℕ) : Type 0 where
    pub rest : SomeRest at end
    pub before : at < end
    pub fit : length rest.words ≤ room

  -- these words are the next, and the rest goes on from a place further on
  pub record WordsAre (at end : ℕ) (vs : List ℤ) (next : ℕ) : Type 0 where
    pub is : (ρ : Valuation) (f : Forest) (us : List ℤ) → Rest at end ρ f us → LeadsOn at end ρ us vs next

  pub record WriteItemIs (at end : ℕ) (out out' : List ℤ) (r : Sized) : Type 0 where
    pub words : List ℤ
    pub item : WordsAre at end words r.next
    pub puts : PutContract out words out' r.words

  pub record FittingRest (at end room : ℕ) : Type 0 where
    pub rest : SomeRest at end
    pub fit : length rest.words ≤ room

  pub record WriteRightIs (at end : ℕ) (out out' : List ℤ) (r : ℕ) : Type 0 where
    pub is : (ρ : Valuation) (f : Forest) (us : List ℤ) → Rest at end ρ f us → out' ≡ write us out
    pub many : (ρ : Valuation) (f : Forest) (us : List ℤ) → Rest at end ρ f us → r ≡ length us

-- Where an item that is no call lies shows in the table and in the two arrays alone, whatever configuration they point into.
module _ (ws : List ℤ) (starts ends : List ℕ) (at : ℕ) where
  pub record SomePiece : Type 0 where
    pub configuration : List ℤ
    pub end : ℕ
    pub before : at < end
    pub rest : SomeRest ws configuration starts ends at end
    pub no_call : get_or ws at (pos 0) ≡ pos 4 → ⊥

  pub record PieceIs (r : Evaluated) : Type 0 where
    pub is : (cs : List ℤ) (end : ℕ) (ρ : Valuation) (f : Forest) (us : List ℤ) → at < end → Rest ws cs starts ends at end ρ f us → ItemOf ws cs starts ends at end ρ us r

-- AN UPDATE, the one call whose value is no part of either slice and not one node. It stands at a right's own level, and is no expression.
pub record IsUpdate (ws : List ℤ) (at : ℕ) : Type 0 where
  pub call : get_or ws at (pos 0) ≡ pos call_tag
  pub code : get_or ws (at + 1) (pos 0) ≡ pos updating

pub record NoUpdate (ws : List ℤ) (at : ℕ) : Type 0 where
  pub not : IsUpdate ws at → ⊥

-- Its three arguments' values, and the place behind it: whatever update stands there, its value's words are the next.
module _ (ws cs : List ℤ) (starts ends : List ℕ) where
  pub record PartsOf (at end : ℕ) (ρ : Valuation) (us : List ℤ) (r : Parts) : Type 0 where
    pub dictionary : Term
    pub key : Term
    pub term : Term
    pub is_dictionary : IsValue ws cs r.dictionary dictionary
    pub is_key : IsValue ws cs r.key key
    pub is_term : IsValue ws cs r.term term
    pub leads : LeadsOn ws cs starts ends at end ρ us (encode (single (interpret updating (cons dictionary (cons key (single term)))))) r.next

  pub record PartsAre (at end : ℕ) (r : Parts) : Type 0 where
    pub is : (ρ : Valuation) (f : Forest) (us : List ℤ) → Rest ws cs starts ends at end ρ f us → PartsOf at end ρ us r

-- A CALL WHOSE VALUE IS ONE NODE, two words, whatever its arguments are worth: so is the value of every function but a lookup and an update (`proofs/RightLaw.one_node`).
pub record OneNodeIs (ws : List ℤ) (at : ℕ) (r : Bool) : Type 0 where
  pub call : r ≡ true → get_or ws at (pos 0) ≡ pos 4
  pub expression : r ≡ true → NoUpdate ws at
  pub size : r ≡ true → (cs : List ℤ) (starts ends : List ℕ) (end : ℕ) (ρ : Valuation) (f : Forest) (us : List ℤ) → at < end → Rest ws cs starts ends at end ρ f us → (next : ℕ) → TermEnds ws at next → SizedOf ws cs starts ends at end ρ us (record { words = 2; next = next })

-- THE SAME OVER A SCOPE, at its table, its configuration and its places, as the contracts of the code name it.
module _ (s : Scope) where
  abbrev pub RestHere : ℕ → ℕ → Type 0
  RestHere at end = SomeRest s.table.now s.configuration.now s.places.now.starts s.places.now.ends at end

  abbrev pub MeasureRightIsHere : ℕ → ℕ → ℕ → Bool → Type 0
  MeasureRightIsHere at end room r = MeasureRightIs s.table.now s.configuration.now s.places.now.starts s.places.now.ends at end room r

  abbrev pub FittingRestHere : ℕ → ℕ → ℕ → Type 0
  FittingRestHere at end room = FittingRest s.table.now s.configuration.now s.places.now.starts s.places.now.ends at end room

  abbrev pub WriteRightIsHere : ℕ → ℕ → List ℤ → List ℤ → ℕ → Type 0
  WriteRightIsHere at end out out' r = WriteRightIs s.table.now s.configuration.now s.places.now.starts s.places.now.ends at end out out' r
