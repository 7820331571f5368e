-- "A call's function code is one of these eighteen": `minuska`'s table, on the roots of the arguments.
use Rattle.std.specs.Prelude.{◌≡◌, cond, ℕ, zero, suc, ◌-◌, ◌^◌, eqb, leb, ℤ, pos, negsuc, Option, Some, None}
use Rattle.minuska.specs.Term.{Label, error, truth, whole, symbol, dictionary, Forest, nil, node, Term, leaf}
use Rattle.minuska.specs.Word.{tag_word, datum_word}
use Rattle.minuska.specs.Function.{wrong_kind, interpret}
use Rattle.minuska.specs.Rule.{updating}
use Rattle.minuska.specs.Bridge.Walk.{looking}
use Rattle.value.specs.declared.builtin.Root.{Root}

-- a word of 64 bits, read without its sign
abbrev pub unsigned : ℤ → ℕ
unsigned (pos n) = n
unsigned (negsuc n) = 2 ^ 64 - suc n

-- the root that two words say: a ground node's label (`proofs/RootLaw`), whatever its child count; of words that are no ground node's, a label all the same
unfoldable pub label_at : ℤ → ℤ → Label
label_at (pos zero) d = error
label_at (pos (suc zero)) d = truth (eqb (unsigned d) 1)
label_at (pos (suc (suc zero))) d = whole d
label_at (pos (suc (suc (suc n)))) d = cond (leb 5 n) (symbol (unsigned d)) (cond (eqb n 2) (dictionary (unsigned d)) error)
label_at (negsuc n) d = error

-- the label that a node's words say
abbrev pub label_of : Root → Label
label_of r = label_at r.tag r.datum

-- the two words of a leaf with this label
unfoldable pub root_of : Label → Root
root_of l = record { tag = tag_word l 0; datum = datum_word l }

-- a number that fits a word, or the error
abbrev pub number_term : Option ℤ → Term
number_term None = wrong_kind
number_term (Some z) = leaf (whole z)

-- three arguments that are leaves
abbrev pub leaves : Label → Label → Label → Forest
leaves a b c = node a nil (node b nil (node c nil nil))

-- the function of a code at arguments with these roots (`proofs/InterpretLaw`: its value depends on nothing else)
unfoldable pub applied : ℕ → Label → Label → Label → Label
applied code a b c = (interpret code (leaves a b c)).label

-- A lookup's value and an update's are not given by the roots of the arguments; every other function's is.
abbrev pub ByRoots : ℕ → Type 0
ByRoots code = (code ≡ looking → ⊥) × (code ≡ updating → ⊥)
