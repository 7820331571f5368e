-- What the table's check answers, and what it leaves in the index.
use Rattle.std.specs.Prelude.{◌≡◌, cond, List, [], ◌∷◌, ℕ, zero, suc, ◌+◌, ◌-◌, ◌≤◌, ◌<◌, ℤ, pos, leb, length, get_or}
use Rattle.std.proofs.Math.Option.{Option, none, some}
use Rattle.minuska.specs.Rule.{Rule, Table, rule_words, IsTable}
use Rattle.std.proofs.Math.ListN.{get_elem?}
use Rattle.std.specs.Prelude.{Result, Ok}
use Rattle.minuska.specs.declared.Refusal.{Refusal}
use Rattle.minuska.specs.Slice.{write}
use Rattle.minuska.specs.Computed.Read.{number_below, read_rule}
use Rattle.minuska.specs.Computed.Outcome.{table_check}
use Rattle.minuska.specs.Bridge.Place.{Stands, left_from, key_of, first_rule, rule_places, Indexed}
use Rattle.minuska.specs.declared.Row.{Row}
use Rattle.minuska.specs.declared.Index.{Index}
use Rattle.minuska.specs.contracts.Index.{the_row}
use Rattle.std.specs.Prelude.{⊤}
use Rattle.std.specs.Borrow.{MutBor, Fml, follows_so}
use Rattle.table.specs.declared.rule.Parts.{Parts}

-- the rows of the rules that words start with, at most k of them, up to the first that is not accepted
abbrev pub places_then : ℕ → Option (Rule × List ℤ) → (ℕ → List ℤ → List Row) → List Row
places_then at none go = []
places_then at (some p) go = rule_places at p.0 ∷ go (at + length (rule_words p.0)) p.1

abbrev pub places_read : ℕ → ℕ → List ℤ → List Row
places_read zero at ws = []
places_read (suc k) at ws = places_then at (read_rule ws) (λ i xs. places_read k i xs)

abbrev pub places_counted : Option ℕ → List ℤ → List Row
places_counted none ws = []
places_counted (some k) ws = places_read k first_rule ws

-- a table of too many words, or of a count out of range, has none
unfoldable pub places_found : List ℤ → List Row
places_found [] = []
places_found (n ∷ ws) = cond (leb (suc (length ws)) 65536) (places_counted (number_below 257 n) ws) []

-- the row of a rule that starts at a place, as it is made: from where its parts stand, its action, the sizes of its right and the words of its left's root
abbrev pub row_of : List ℤ → ℕ → Parts → Row
row_of ws at p =
    record {
      left = left_from at - first_rule;
      right = p.right - first_rule;
      conditions = p.conditions - first_rule;
      end = p.end - first_rule;
      key = key_of (get_or ws (left_from at) (pos 0)) (get_or ws (left_from at + 1) (pos 0));
      action = p.action;
      fixed = p.sizes.fixed;
      leaves = p.sizes.leaves;
    }

-- its numbers are small
pub record RowFits (ws : List ℤ) (at : ℕ) (p : Parts) : Type 0 where
  pub root : left_from at + 2 ≤ length ws
  pub right_after : left_from at ≤ p.right
  pub conditions_after : p.right ≤ p.conditions
  pub end_after : p.conditions ≤ p.end
  pub end_fits : p.end ≤ 65536
  pub short : length ws ≤ 65536
  pub action_fits : p.action < 65536
  pub ones : p.sizes.fixed < 65536
  pub variables : p.sizes.leaves < 65536

-- A row is a rule's: the rule starts at a place, and the row's numbers are the rule's.
pub record RowOf (ws : List ℤ) (row : Row) (rule : Rule) : Type 0 where
  pub start : ℕ
  pub stands : Stands ws start (rule_words rule)
  pub is : row ≡ rule_places start rule

-- It is that of rule number n, in whatever table the words are.
pub record RowIs (ws : List ℤ) (n : ℕ) (row : Row) : Type 0 where
  pub rule : (t : Table) (r : Rule) → IsTable ws t → get_elem? t n ≡ some r → RowOf ws row r

-- The answer; the index afterwards, for every answer: the places of the rules that were accepted, the numbers behind them keep.
pub record IndexTableContract (table : List ℤ) (index index' : List Row) (r : Result (Unit {0}) Refusal) : Type 0 where
  pub answer : r ≡ table_check table
  pub leaves : index' ≡ write (places_found table) index
  pub indexed : r ≡ Ok tt → Indexed table index'

-- The same of an index that a checked table goes on borrowing: what it holds when that borrow has ended, for every answer.
abbrev pub LeavesIndex : List ℤ → MutBor Index → Fml
LeavesIndex table index =
    follows_so the_row the_row index.ghost_name none (λ _ _. ⊤) (λ last. last.rows ≡ write (places_found table) index.now.rows)
