-- Bridges to code: what stands where in a slice of words, where a table's parts stand, and what a check has established.
use Rattle.std.specs.Prelude.{◌≡◌, Bool, true, false, cond, ◌⊎◌, List, [], ◌∷◌, ℕ, ◌+◌, ◌-◌, ◌*◌, ◌%◌, ◌≤◌, ◌<◌, ℤ, pos, negsuc, T, length, take, drop, get_or}
use Rattle.std.proofs.Math.Option.{none, some}
use Rattle.std.proofs.Math.ListN.{get_elem?}
use Rattle.minuska.specs.Basics.{same_whole}
use Rattle.minuska.specs.Term.{Term, single, term_count, is_ground}
use Rattle.minuska.specs.Word.{tag_word, datum_word, ok, encode}
use Rattle.minuska.specs.Satisfaction.{Valuation}
use Rattle.minuska.specs.Rule.{Rule, Table, condition_words, rule_words, IsTable, IsConfiguration}
use Rattle.minuska.specs.Computed.Step.{order}
use Rattle.minuska.specs.Bridge.Shape.{shapely}
use Rattle.minuska.specs.Bridge.Walk.{fixed_nodes, variable_nodes}
use Rattle.minuska.specs.declared.Row.{Row}

-- the words from one place up to another
abbrev pub part : List ℤ → ℕ → ℕ → List ℤ
part ws from to = take (to - from) (drop from ws)

-- the words xs stand in ws from a place on
pub record Stands (ws : List ℤ) (at : ℕ) (xs : List ℤ) : Type 0 where
  pub words : take (length xs) (drop at ws) ≡ xs
  pub within : at + length xs ≤ length ws

-- a ground term in range stands at a place, its dictionaries in order or not; whatever such term stands there, it ends at r
pub record GroundAt (ws : List ℤ) (at : ℕ) : Type 0 where
  pub term : Term
  pub shape : T (shapely (single term))
  pub grounded : T (is_ground (single term))
  pub stands : Stands ws at (encode (single term))

pub record GroundEnds (ws : List ℤ) (at r : ℕ) : Type 0 where
  pub ends : (t : Term) → T (shapely (single t)) → T (is_ground (single t)) → Stands ws at (encode (single t)) → r ≡ at + length (encode (single t))

-- Two arrays of 16 numbers bind a valuation's variables to parts of a configuration: each variable's term stands from its start up to its end.
pub record BoundAt (config : List ℤ) (start end v : ℕ) (t : Term) : Type 0 where
  pub variable : v < 16
  pub good : T (ok (single t))
  pub grounded : T (is_ground (single t))
  pub stands : Stands config start (encode (single t))
  pub ends : end ≡ start + length (encode (single t))

pub record Binds (config : List ℤ) (starts ends : List ℕ) (ρ : Valuation) : Type 0 where
  pub places : (v : ℕ) (t : Term) → ρ v ≡ some t → BoundAt config (get_or starts v 0) (get_or ends v 0) v t

-- The parts of a rule, as words. In front of them stand its header words: its action and its condition count.
abbrev pub header_words : ℕ
header_words = 2

abbrev pub left_words : Rule → List ℤ
left_words r = encode (single r.left)

abbrev pub right_words : Rule → List ℤ
right_words r = encode (single r.right)

abbrev pub conditions_words : Rule → List ℤ
conditions_words r = condition_words r.conditions

-- Where they start, if the rule starts at a place; and where the rule ends.
abbrev pub left_from : ℕ → ℕ
left_from at = at + header_words

abbrev pub right_from : ℕ → Rule → ℕ
right_from at r = left_from at + length (left_words r)

abbrev pub conditions_from : ℕ → Rule → ℕ
conditions_from at r = right_from at r + length (right_words r)

abbrev pub end_from : ℕ → Rule → ℕ
end_from at r = conditions_from at r + length (conditions_words r)

-- The key of a node, by its two words, a number of 16 bits: 0 of a variable. Nodes with different keys differ.
abbrev pub remainder : ℤ → ℕ → ℕ
remainder (pos n) m = n % m
remainder (negsuc n) m = 0

unfoldable pub key_of : ℤ → ℤ → ℕ
key_of t d = cond (same_whole t (pos 3)) 0 (4096 * remainder t 16 + remainder d 4096)

-- A left's root and a configuration's: a variable's, or the same two words. Where they do not meet, the left does not match.
abbrev pub root_tag : Term → ℤ
root_tag t = tag_word t.label (term_count t.children)

abbrev pub root_key : Term → ℕ
root_key t = key_of (root_tag t) (datum_word t.label)

abbrev pub RootMeets : Term → Term → Type 0
RootMeets l g = (root_tag l ≡ pos 3) ⊎ ((root_tag l ≡ root_tag g) × (datum_word l.label ≡ datum_word g.label))

-- THE LAYOUT OF A TABLE'S INDEX: a row a rule, whose numbers have 16 bits: places are counted from the first rule, which stands at word 1.
abbrev pub first_rule : ℕ
first_rule = 1

abbrev pub rule_places : ℕ → Rule → Row
rule_places at r =
    record {
      left = left_from at - first_rule;
      right = right_from at r - first_rule;
      conditions = conditions_from at r - first_rule;
      end = end_from at r - first_rule;
      key = root_key r.left;
      action = r.action;
      fixed = fixed_nodes (single r.right);
      leaves = variable_nodes (single r.right);
    }

abbrev pub places_from : ℕ → Table → List Row
places_from at [] = []
places_from at (r ∷ rs) = rule_places at r ∷ places_from (at + length (rule_words r)) rs

abbrev pub places : Table → List Row
places table = places_from first_rule table

-- What the table's check establishes: the words are an accepted table, and the index begins with its places.
pub record Indexed (ws : List ℤ) (index : List Row) : Type 0 where
  pub table : Table
  pub is : IsTable ws table
  pub indexed : take (length table) index ≡ places table

-- a number that names a rule
pub record Names (ws : List ℤ) (n : ℕ) : Type 0 where
  pub table : Table
  pub is : IsTable ws table
  pub rule : Rule
  pub numbered : get_elem? table n ≡ some rule

-- A part of rule number n stands from one place up to another, in whatever table the words are.
pub record PartIs (words : Rule → List ℤ) (ws : List ℤ) (n from to : ℕ) : Type 0 where
  pub stands : (table : Table) (rule : Rule) → IsTable ws table → get_elem? table n ≡ some rule → Stands ws from (words rule)
  pub ends : (table : Table) (rule : Rule) → IsTable ws table → get_elem? table n ≡ some rule → to ≡ from + length (words rule)

-- What the routines on checked words say of any table that the words are. Its rule count; the action of a number that names a rule, of any other 0; the
-- rule at a position of the order in which rules are tried, at any other a number that names no rule.
pub record RuleCountIs (ws : List ℤ) (r : ℕ) : Type 0 where
  pub is : (table : Table) → IsTable ws table → r ≡ length table

pub record ActionIs (ws : List ℤ) (n r : ℕ) : Type 0 where
  pub is : (table : Table) (rule : Rule) → IsTable ws table → get_elem? table n ≡ some rule → r ≡ rule.action
  pub other : (table : Table) → IsTable ws table → get_elem? table n ≡ none → r ≡ 0

pub record OrderedIs (ws : List ℤ) (i r : ℕ) : Type 0 where
  pub is : (table : Table) → IsTable ws table → (n : ℕ) → get_elem? (order table) i ≡ some n → r ≡ n
  pub other : (table : Table) → IsTable ws table → get_elem? (order table) i ≡ none → get_elem? table r ≡ none

-- The sizes of the right of rule number n: its nodes that give one node each, and its variables.
pub record SizesAre (ws : List ℤ) (n fixed leaves : ℕ) : Type 0 where
  pub ones : (table : Table) (rule : Rule) → IsTable ws table → get_elem? table n ≡ some rule → fixed ≡ fixed_nodes (single rule.right)
  pub variables : (table : Table) (rule : Rule) → IsTable ws table → get_elem? table n ≡ some rule → leaves ≡ variable_nodes (single rule.right)

-- A number of positions of that order. From a position on, up to another, the left of every rule there is seen not to match at its root, by its key.
pub record Positions (ws : List ℤ) (to : ℕ) : Type 0 where
  pub there : (table : Table) → IsTable ws table → to ≤ length (order table)

abbrev pub KeysDiffer : Term → Term → Type 0
KeysDiffer l g = (root_key l ≡ 0 → ⊥) × (root_key l ≡ root_key g → ⊥)

-- the key of the root of the configuration that stands there
pub record RootKeyIs (cs : List ℤ) (root : ℕ) : Type 0 where
  pub is : (g : Term) → IsConfiguration cs g → root ≡ root_key g

-- At the positions from one up to another stand no rules whose left may match a term whose root has this key.
pub record RootsPassed (ws : List ℤ) (root from to : ℕ) : Type 0 where
  pub keys : (table : Table) (rule : Rule) (g : Term) (i n : ℕ) → IsTable ws table → root ≡ root_key g → from ≤ i → i < to → get_elem? (order table) i ≡ some n → get_elem? table n ≡ some rule → KeysDiffer rule.left g
  pub differ : (table : Table) (rule : Rule) (g : Term) (i n : ℕ) → IsTable ws table → root ≡ root_key g → from ≤ i → i < to → get_elem? (order table) i ≡ some n → get_elem? table n ≡ some rule → RootMeets rule.left g → ⊥

-- The first position from one on, up to another, whose rule is not passed over.
pub record SeekIs (ws : List ℤ) (root from to r : ℕ) : Type 0 where
  pub low : from ≤ r
  pub high : r ≤ to
  pub passed : RootsPassed ws root from r
  pub stops : (table : Table) (rule : Rule) (g : Term) (n : ℕ) → r < to → IsTable ws table → root ≡ root_key g → get_elem? (order table) r ≡ some n → get_elem? table n ≡ some rule → KeysDiffer rule.left g → ⊥

-- What the configuration's check establishes.
pub record Accepted (ws : List ℤ) : Type 0 where
  pub term : Term
  pub is : IsConfiguration ws term

-- a test that decides a fact
pub record Decides (b : Bool) (P : Type 0) : Type 0 where
  pub yes : b ≡ true → P
  pub no : b ≡ false → P → ⊥
