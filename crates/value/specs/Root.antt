-- The root of a ground term, from its first two words.
use Rattle.std.specs.Prelude.{◌≡◌, ℕ, ◌+◌, T, ℤ, pos, get_or, List}
use Rattle.minuska.specs.Term.{Label, error, Term, term_count, role, ground_at}
use Rattle.minuska.specs.Word.{tag_word, datum_word, ok_head}
use Rattle.minuska.specs.Bridge.Walk.{looking}
use Rattle.value.specs.Builtin.{root_of}
use Rattle.value.specs.Value.{IsValue}
use Rattle.value.specs.declared.builtin.Root.{Root}
use Rattle.value.specs.declared.Value.{Value}
use Rattle.value.specs.declared.Value.TheVariants.{Table, Configuration, Computed}

-- two words are those of a ground node with this label and so many children
pub record Head (r : Root) (l : Label) (k : ℕ) : Type 0 where
  pub good : T (ok_head l k)
  pub grounded : T (ground_at (role l))
  pub tag : r.tag ≡ tag_word l k
  pub datum : r.datum ≡ datum_word l

-- the two words at a place
unfoldable pub root_at : List ℤ → ℕ → Root
root_at ws at = record { tag = get_or ws at (pos 0); datum = get_or ws (at + 1) (pos 0) }

-- a value is some term; whatever term it is, r is its root
pub record ValueIn (table config : List ℤ) (v : Value) : Type 0 where
  pub term : Term
  pub is : IsValue table config v term

pub record RootIs (table config : List ℤ) (v : Value) (r : Root) : Type 0 where
  pub is : (t : Term) → IsValue table config v t → Head r t.label (term_count t.children)

-- one node, a literal, stands at a place of the table
pub record NodeIn (table config : List ℤ) (at : ℕ) : Type 0 where
  pub term : Term
  pub is : IsValue table config (Table (record { from = at; to = at + 2 })) term

-- a part of either slice, or the computed error
abbrev pub PartOrError : Value → Type 0
PartOrError (Table s) = Unit {0}
PartOrError (Configuration s) = Unit {0}
PartOrError (Computed r) = r ≡ root_of error

-- WHAT A BUILT-IN FUNCTION GIVES, as a value: one node, computed; a lookup, a part or error. That each but a lookup gives no more than a node is said here and in
-- `proofs/InterpretLaw`, `GivenLaw`, and nowhere else.
pub record Given (code : ℕ) (t : Term) (v : Value) : Type 0 where
  pub computed : (code ≡ looking → ⊥) → v ≡ Computed (root_of t.label)
  pub looked : code ≡ looking → PartOrError v
