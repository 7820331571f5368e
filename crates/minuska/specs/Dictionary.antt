-- Dictionaries (document 02, request 1): a list of entries, "keys being whole numbers in strictly rising order".
use Rattle.std.specs.Prelude.{Bool, true, false, ◌&&◌, cond, List, [], ◌∷◌, ℕ, ℤ, length}
use Rattle.std.proofs.Math.Option.{Option, none, some}
use Rattle.std.specs.Int.Signed.{lt_z}
use Rattle.minuska.specs.Basics.{◌>>=◌, same_whole}
use Rattle.minuska.specs.Term.{whole, dictionary, Forest, nil, node, Term, cons, as_whole}

pub record Entry : Type 0 where
  pub key : ℤ
  pub value : Term

abbrev pub Entries : Type 0
Entries = List Entry

-- "the entry count, 0 to 64"
abbrev pub max_entries : ℕ
max_entries = 64

-- the value at a key
abbrev pub find : ℤ → Entries → Option Term
find k [] = none
find k (e ∷ es) = cond (same_whole k e.key) (some e.value) (find k es)

-- "An update replaces or inserts", at its place.
abbrev pub put : ℤ → Term → Entries → Entries
put k v [] = record { key = k; value = v } ∷ []
put k v (e ∷ es) =
    cond (lt_z k e.key) (record { key = k; value = v } ∷ e ∷ es) (cond (same_whole k e.key) (record { key = k; value = v } ∷ es) (e ∷ put k v es))

-- keys in strictly rising order
abbrev pub below : ℤ → Entries → Bool
below k [] = true
below k (e ∷ es) = lt_z k e.key

abbrev pub rising : Entries → Bool
rising [] = true
rising (e ∷ es) = below e.key es && rising es

-- "then key and value terms alternate"
abbrev pub entry_terms : Entries → Forest
entry_terms [] = nil
entry_terms (e ∷ es) = node (whole e.key) nil (cons e.value (entry_terms es))

abbrev pub dictionary_term : Entries → Term
dictionary_term es = record { label = dictionary (length es); children = entry_terms es }

-- the entries that terms in turn are, if each key is a whole number
abbrev pub entries : Forest → Option Entries
entries nil = some []
entries (node l ls nil) = none
entries (node l ls (node m ms ss)) =
    as_whole l >>= λ k. entries ss >>= λ es. some (record { key = k; value = record { label = m; children = ms } } ∷ es)

abbrev pub all_rise : Option Entries → Bool
all_rise none = false
all_rise (some es) = rising es
