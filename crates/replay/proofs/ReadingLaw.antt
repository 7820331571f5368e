-- Words are read as what they are.
use mathlib.Core.Path.{◌≡◌, ap}
use mathlib.Core.List.{List, []}
use lib.IntN.{ℤ}
use Rattle.minuska.specs.Term.{Term, error, leaf}
use Rattle.minuska.specs.Rule.{Table, IsTable, IsConfiguration}
use Rattle.minuska.specs.Bridge.Place.{Accepted, Indexed}
use Rattle.minuska.proofs.TableLaw.{read_table_iff}
use Rattle.minuska.proofs.ConfigurationLaw.{read_configuration_iff}
use Rattle.minuska.specs.declared.Row.{Row}
use Rattle.replay.specs.Reading.{value_or, table_of, term_of}

pub table_of_lem : (ws : List ℤ) (t : Table) → IsTable ws t → table_of ws ≡ t
unfolding table_of
table_of_lem ws t h = ap (value_or []) ((read_table_iff ws t).1 h)

pub term_of_lem : (ws : List ℤ) (g : Term) → IsConfiguration ws g → term_of ws ≡ g
unfolding term_of
term_of_lem ws g h = ap (value_or (leaf error)) ((read_configuration_iff ws g).1 h)

-- what is indexed is the table's words; what is accepted, the term's
pub is_table_lem : (ws : List ℤ) (t : Table) → IsTable ws t → IsTable ws (table_of ws)
is_table_lem ws t h = rw (table_of_lem ws t h) h

pub is_term : (ws : List ℤ) → Accepted ws → IsConfiguration ws (term_of ws)
is_term ws a = rw (term_of_lem ws a.term a.is) a.is

-- a checked table is its words' table
pub checked_is : {ws : List ℤ} {rows : List Row} → Indexed ws rows → IsTable ws (table_of ws)
checked_is {ws} x = is_table_lem ws x.table x.is
