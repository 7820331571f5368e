-- A key among entries that stand one behind the other.
use Rattle.std.specs.Prelude.{◌≡◌, List, [], ◌∷◌, ◌++◌, ℕ, ◌+◌, T, false, ℤ, length, Result, MatchResult}
use Rattle.std.specs.Int.Signed.{lt_z}
use Rattle.minuska.specs.Basics.{Every, same_whole}
use Rattle.minuska.specs.Term.{is_ground}
use Rattle.minuska.specs.Dictionary.{Entry, Entries, below, entry_terms}
use Rattle.minuska.specs.Word.{ok, encode}
use Rattle.minuska.specs.Bridge.Place.{Stands}
use Rattle.term.specs.declared.Span.{Span}

-- so many entries stand at a place, keys and values in turn
pub record EntriesAt (ws : List ℤ) (at n : ℕ) (es : Entries) : Type 0 where
  pub good : T (ok (entry_terms es))
  pub grounded : T (is_ground (entry_terms es))
  pub count : length es ≡ n
  pub stands : Stands ws at (encode (entry_terms es))

pub record EntriesIn (ws : List ℤ) (at n : ℕ) : Type 0 where
  pub entries : Entries
  pub are : EntriesAt ws at n entries

-- how many words entries have
abbrev pub size : Entries → ℕ
size es = length (encode (entry_terms es))

-- no entry has a greater key, or this one
abbrev pub Smaller : ℤ → Entries → Type 0
Smaller key es = Every (λ e. (lt_z key e.key ≡ false) × (same_whole key e.key ≡ false)) es

-- THE ENTRY WITH THE KEY, and where it stands: those in front of it have smaller keys
pub record Has (at : ℕ) (key : ℤ) (es : Entries) (r : Span) : Type 0 where
  pub front : Entries
  pub entry : Entry
  pub behind : Entries
  pub all : es ≡ front ++ (entry ∷ behind)
  pub smaller : Smaller key front
  pub same : key ≡ entry.key
  pub from : r.from ≡ at + size front
  pub to : r.to ≡ r.from + size (entry ∷ [])

-- THE PLACE WHERE IT WOULD START: between smaller keys and a greater one
pub record Lacks (at : ℕ) (key : ℤ) (es : Entries) (r : ℕ) : Type 0 where
  pub front : Entries
  pub behind : Entries
  pub all : es ≡ front ++ behind
  pub smaller : Smaller key front
  pub greater : T (below key behind)
  pub place : r ≡ at + size front

-- of whatever entries stand there
pub record SearchIs (ws : List ℤ) (at n : ℕ) (key : ℤ) (r : Result Span ℕ) : Type 0 where
  pub is : (es : Entries) → EntriesAt ws at n es → MatchResult r (Has at key es) (Lacks at key es)
