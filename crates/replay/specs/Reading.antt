-- What words are read as, where they are accepted; else an empty table, an error.
use Rattle.std.proofs.Math.Option.{Option, none, some}
use Rattle.std.specs.Prelude.{List, [], ℤ}
use Rattle.minuska.specs.Term.{Term, error, leaf}
use Rattle.minuska.specs.Rule.{Table}
use Rattle.minuska.specs.Computed.Read.{read_table, read_configuration}

abbrev pub value_or : {A : Type 0} → A → Option A → A
value_or d none = d
value_or d (some a) = a

unfoldable pub table_of : List ℤ → Table
table_of ws = value_or [] (read_table ws)

unfoldable pub term_of : List ℤ → Term
term_of ws = value_or (leaf error) (read_configuration ws)
