-- A value's words, wherever they are.
use Rattle.std.specs.Prelude.{◌≡◌, List, [], ◌∷◌, ℕ, ◌-◌, ◌≤◌, T, ℤ, pos, length}
use Rattle.minuska.specs.Term.{Term, single, is_ground}
use Rattle.minuska.specs.Word.{ok, encode}
use Rattle.minuska.specs.Bridge.Place.{part}
use Rattle.value.specs.declared.Value.{Value}
use Rattle.value.specs.declared.Value.TheVariants.{Table, Configuration, Computed}

-- "a part of the table or a part of the configuration"; a computed value is two words of its own
unfoldable pub value_words : List ℤ → List ℤ → Value → List ℤ
value_words table config (Table s) = part table s.from s.to
value_words table config (Configuration s) = part config s.from s.to
value_words table config (Computed r) = r.tag ∷ r.datum ∷ []

-- the part of either slice that holds the value; none holds a computed one
unfoldable pub part_words : List ℤ → List ℤ → Value → List ℤ
part_words table config (Table s) = part table s.from s.to
part_words table config (Configuration s) = part config s.from s.to
part_words table config (Computed r) = []

-- the words of its own; none has meaning elsewhere
unfoldable pub own_words : Value → List ℤ
own_words (Table s) = pos 0 ∷ pos 0 ∷ []
own_words (Configuration s) = pos 0 ∷ pos 0 ∷ []
own_words (Computed r) = r.tag ∷ r.datum ∷ []

-- the part lies within its slice
unfoldable pub Within : List ℤ → List ℤ → Value → Type 0
Within table config (Table s) = (s.from ≤ s.to) × (s.to ≤ length table)
Within table config (Configuration s) = (s.from ≤ s.to) × (s.to ≤ length config)
Within table config (Computed r) = Unit {0}

-- how many words; the part's ends are in order
unfoldable pub size_of : Value → ℕ
size_of (Table s) = s.to - s.from
size_of (Configuration s) = s.to - s.from
size_of (Computed r) = 2

unfoldable pub Ordered : Value → Type 0
Ordered (Table s) = s.from ≤ s.to
Ordered (Configuration s) = s.from ≤ s.to
Ordered (Computed r) = Unit {0}

-- the value is this ground term
pub record IsValue (table config : List ℤ) (v : Value) (t : Term) : Type 0 where
  pub good : T (ok (single t))
  pub grounded : T (is_ground (single t))
  pub words : value_words table config v ≡ encode (single t)
  pub within : Within table config v
