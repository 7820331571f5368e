-- One node of a table's terms: what its two words are, what may stand at a level, and the level of its children.
use Rattle.std.specs.Prelude.{◌≡◌, Bool, true, false, cond, List, ℕ, ◌+◌, ◌≤◌, ◌<◌, ℤ, pos, length, get_or, set, replicate, Option, Some, None}
use Rattle.std.proofs.Math.Option as M
use Rattle.std.proofs.Math.Option.{none, some}
use Rattle.minuska.specs.Term.{Label, error, truth, whole, variable, call, symbol, dictionary}
use Rattle.minuska.specs.Rule.{in_expression}
use Rattle.minuska.specs.Computed.Read.{read_node}
use Rattle.minuska.specs.Function.{functions}
use Rattle.minuska.specs.Word.{variables}
use Rattle.table.specs.Level.{Level, Left, Right, Expression, Ground}
use Rattle.table.specs.declared.node.Node.{Node}
use Rattle.table.specs.declared.node.Node.TheVariants as N
use Rattle.table.specs.Below.{Below}
use Rattle.table.specs.Below as B

-- A node to a walk: its role, and a dictionary apart, below which nothing is a variable or a call.
pub data Kind : Type 0 where
  a_variable : ℕ → Kind
  a_call : ℕ → Kind
  plain : Kind
  literal : Kind

abbrev pub kind : Label → Kind
kind error = plain
kind (truth b) = plain
kind (whole z) = plain
kind (variable v) = a_variable v
kind (call c) = a_call c
kind (symbol s) = plain
kind (dictionary n) = literal

-- what two words are, if they are a node in range
abbrev pub node_as : Kind → ℕ → Node
node_as (a_variable v) k = N.Variable v
node_as (a_call c) k = N.Call k c
node_as plain k = N.Plain k
node_as literal k = N.Literal k

abbrev pub node_in : M.Option (Label × ℕ) → Option Node
node_in none = None
node_in (some n) = Some (node_as (kind n.0) n.1)

unfoldable pub node_of : ℤ → ℤ → Option Node
node_of t d = node_in (read_node t d)

-- The functions whose codes are below have one node for a value, and take no dictionary.
abbrev pub plain_functions : ℕ
plain_functions = 15

-- how many functions a walk knows that knows dictionaries or none
abbrev pub known_functions : Bool → ℕ
known_functions mixed = cond mixed (length functions) plain_functions

-- No dictionary, and no call of a function on one.
abbrev pub Simple : Node → Type 0
Simple (N.Plain k) = Unit {0}
Simple (N.Call k c) = c < plain_functions
Simple (N.Variable v) = Unit {0}
Simple (N.Literal k) = ⊥

-- What two words are. If dictionaries are not known, such a node is found, and where none is, nothing is said.
abbrev pub Known : Bool → ℤ → ℤ → Option Node → Type 0
Known mixed t d (Some n) = (Some n ≡ node_of t d) × (mixed ≡ false → Simple n)
Known mixed t d None = mixed ≡ true → None ≡ node_of t d

-- This node stands at a place; none in range does.
pub record NodeAt (ws : List ℤ) (i : ℕ) (n : Node) : Type 0 where
  pub room : i + 2 ≤ length ws
  pub is : Some n ≡ node_of (get_or ws i (pos 0)) (get_or ws (i + 1) (pos 0))

pub record NoneAt (ws : List ℤ) (i : ℕ) : Type 0 where
  pub none : i + 2 ≤ length ws → None ≡ node_of (get_or ws i (pos 0)) (get_or ws (i + 1) (pos 0))

-- What is found at a place.
pub record KnownAt (mixed : Bool) (ws : List ℤ) (i : ℕ) (n : Node) : Type 0 where
  pub node : NodeAt ws i n
  pub simple : mixed ≡ false → Simple n

pub record UnknownAt (mixed : Bool) (ws : List ℤ) (i : ℕ) : Type 0 where
  pub none : mixed ≡ true → NoneAt ws i

abbrev pub FoundAt : Bool → List ℤ → ℕ → Option Node → Type 0
FoundAt mixed ws i (Some n) = KnownAt mixed ws i n
FoundAt mixed ws i None = UnknownAt mixed ws i

-- "A left has no call." An expression is no update.
abbrev pub takes_call : Level → ℕ → Bool
takes_call Left c = false
takes_call Right c = true
takes_call Expression c = in_expression c
takes_call Ground c = false

-- "A symbol under a call, or in a condition, has no variable or call below it."
abbrev pub under_plain : Level → Level
under_plain Left = Left
under_plain Right = Right
under_plain Expression = Ground
under_plain Ground = Ground

-- "Every variable of the right and of the conditions occurs in the left": there it was flagged.
abbrev pub takes_variable : Level → Bool → Bool
takes_variable Left flagged = true
takes_variable Right flagged = flagged
takes_variable Expression flagged = flagged
takes_variable Ground flagged = false

abbrev pub flags : Level → ℕ → List Bool → List Bool
flags Left v seen = set seen v true
flags Right v seen = seen
flags Expression v seen = seen
flags Ground v seen = seen

-- a rule's two sides
abbrev pub side_level : Bool → Level
side_level true = Left
side_level false = Right

-- before a left none is flagged
abbrev pub unseen : List Bool
unseen = replicate variables false

pub record TakesVariable (level : Level) (v : ℕ) (seen seen' : List Bool) (r : Bool) : Type 0 where
  pub answer : r ≡ takes_variable level (get_or seen v false)
  pub leaves : seen' ≡ flags level v seen

-- A node at a level: the level and the number of its children, if it may stand there; the flags afterwards.
abbrev pub admit_node : Level → List Bool → Option Node → Below
admit_node l seen (Some (N.Plain k)) = B.Are (under_plain l) k
admit_node l seen (Some (N.Literal k)) = B.Are Ground k
admit_node l seen (Some (N.Call k c)) = cond (takes_call l c) (B.Are Expression k) B.Bad
admit_node l seen (Some (N.Variable v)) = cond (takes_variable l (get_or seen v false)) (B.Are l 0) B.Bad
admit_node l seen None = B.Bad

abbrev pub flag_node : Level → List Bool → Option Node → List Bool
flag_node l seen (Some (N.Plain k)) = seen
flag_node l seen (Some (N.Literal k)) = seen
flag_node l seen (Some (N.Call k c)) = seen
flag_node l seen (Some (N.Variable v)) = flags l v seen
flag_node l seen None = seen

unfoldable pub admitted : Level → ℤ → ℤ → List Bool → Below
admitted l t d seen = admit_node l seen (node_of t d)

unfoldable pub seen_after : Level → ℤ → ℤ → List Bool → List Bool
seen_after l t d seen = flag_node l seen (node_of t d)
