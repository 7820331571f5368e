-- What the routines answer: a node's child count, and the place behind a term whose labels pass a test.
use Rattle.std.specs.Prelude.{◌≡◌, Bool, true, false, List, [], ◌∷◌, ℕ, zero, suc, ◌+◌, ◌-◌, ◌*◌, ◌≤◌, ◌<◌, ℤ, pos, negsuc, length, drop, get_or}
use Rattle.std.specs.Prelude.{Some, None, option_map}
use Rattle.std.specs.Prelude as P
use Rattle.std.proofs.Math.Option.{Option, none, some}
use Rattle.minuska.specs.Basics.{◌>>=◌, provided}
use Rattle.minuska.specs.Computed.Read.{read_node, children_at, plain_children, max_children, symbol_tag, dictionary_tag}
use Rattle.minuska.specs.Function.{function_at}
use Rattle.minuska.specs.Term.{Label, error, truth, whole, variable, call, symbol, dictionary, role, ground_at}
use Rattle.term.specs.declared.ground.Reached.{Reached}
use Rattle.term.specs.declared.ground.Walked.{Walked}

-- three tests of a label: none; that a ground term has it; and that it is no dictionary besides, so that its tag alone says how many children it has
abbrev pub any_label : Label → Bool
any_label l = true

abbrev pub ground_label : Label → Bool
ground_label l = ground_at (role l)

-- what a walk passes: any label, or a ground term's
abbrev pub walked : Bool → Label → Bool
walked true = any_label
walked false = ground_label

abbrev pub tagged_label : Label → Bool
tagged_label error = true
tagged_label (truth b) = true
tagged_label (whole z) = true
tagged_label (variable v) = false
tagged_label (call c) = false
tagged_label (symbol s) = true
tagged_label (dictionary n) = false

-- the child count that two words say, if they are a node's and its label passes
abbrev pub children_if : (Label → Bool) → ℤ → ℤ → Option ℕ
children_if p t d = read_node t d >>= λ n. provided (p n.0) n.1

-- two words that are a node's, whose label passes
pub record WalkedNode (p : Label → Bool) (t d : ℤ) : Type 0 where
  pub count : ℕ
  pub is : children_if p t d ≡ some count

-- how many words the first k terms of a list of words take, if all their labels pass ("a node, then its children left to right")
abbrev pub extent : (Label → Bool) → List ℤ → ℕ → Option ℕ
extent p [] zero = some 0
extent p [] (suc k) = none
extent p (t ∷ []) zero = some 0
extent p (t ∷ []) (suc k) = none
extent p (t ∷ d ∷ ws) zero = some 0
extent p (t ∷ d ∷ ws) (suc k) = children_if p t d >>= λ m. extent p ws (m + k) >>= λ e. some (2 + e)

abbrev pub place_of : ℕ → Option ℕ → P.Option ℕ
place_of at none = None
place_of at (some m) = Some (at + m)

-- SHUT NAMES, which contracts cite. The column "children": the count that a node's two words say, and a function's arity ("by function").
unfoldable pub children_of : ℤ → ℤ → ℕ
children_of t d = children_at t d

unfoldable pub tag_children : ℤ → ℕ
tag_children (pos t) = t - symbol_tag
tag_children (negsuc t) = 0

unfoldable pub arity_of : ℕ → ℕ
arity_of code = (function_at code).arity

-- The place behind so many ground terms that start at a place.
unfoldable pub ground_terms_end : List ℤ → ℕ → ℕ → P.Option ℕ
ground_terms_end ws at k = place_of at (extent ground_label (drop at ws) k)

-- So many terms whose labels pass end somewhere; they end at r.
pub record TermsAt (p : Label → Bool) (ws : List ℤ) (at k : ℕ) : Type 0 where
  pub end : ℕ
  pub ends : place_of at (extent p (drop at ws) k) ≡ Some end

pub record TermsEnd (p : Label → Bool) (ws : List ℤ) (at k r : ℕ) : Type 0 where
  pub is : place_of at (extent p (drop at ws) k) ≡ Some r

-- What a test of two words says: whether they are a ground term's node, which is no call.
pub record GroundNode (t d : ℤ) (passes : Bool) : Type 0 where
  pub children : children_if ground_label t d ≡ provided passes (plain_children t d)

pub record TaggedNode (t d : ℤ) (passes : Bool) : Type 0 where
  pub children : children_if tagged_label t d ≡ provided passes (tag_children t)

-- No dictionary is among the nodes that stand from a place up to another.
pub record NoneMet (ws : List ℤ) (from to : ℕ) : Type 0 where
  pub nodes : ℕ
  pub ends : to ≡ from + 2 * nodes
  pub none : (j : ℕ) → j < nodes → get_or ws (from + 2 * j) (pos 0) ≡ pos dictionary_tag → ⊥

-- What the walk by tags says: the terms still to come end where all do, there is no dictionary in front of them, and the first node of them is a dictionary or none of a ground term.
pub record TaggedTermsAre (ws : List ℤ) (at k : ℕ) (r : Reached) : Type 0 where
  pub inside : r.at ≤ length ws
  pub few : r.left ≤ 7 * r.at + max_children
  pub rest : ground_terms_end ws at k ≡ ground_terms_end ws r.at r.left
  pub none : NoneMet ws at r.at
  pub stops : 0 < r.left → r.at + 2 ≤ length ws → TaggedNode (get_or ws r.at (pos 0)) (get_or ws (r.at + 1) (pos 0)) false

-- What the walk over ground terms says: the place behind them, and if it met no dictionary, that there is none.
pub record GroundTermsAre (ws : List ℤ) (at k : ℕ) (r : P.Option Walked) : Type 0 where
  pub place : option_map (λ w. w.end) r ≡ ground_terms_end ws at k
  pub none : (w : Walked) → r ≡ Some w → w.met ≡ false → NoneMet ws at w.end
