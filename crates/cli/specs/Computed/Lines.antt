-- The four lines, and the request that they hold.
use Rattle.std.specs.Prelude.{cond, List, [], ◌∷◌, ℕ, suc, eqb, ltb, take, drop, Option, None, Some, option_map, option_and_then}
use Rattle.cli.specs.Input.{Request}
use Rattle.cli.specs.declared.lines.Lines.{Lines}
use Rattle.decimal.specs.Computed.Line.{word_of, items, log_items, accepted, limit_in}

-- where the first LF stands
unfoldable pub first_lf : List ℕ → Option ℕ
first_lf [] = None
first_lf (b ∷ bs) = cond (eqb b 10) (Some 0) (option_map suc (first_lf bs))

-- the first line and what stands behind its LF, where it has one and is not too long
unfoldable pub split_line : List ℕ → Option (List ℕ × List ℕ)
split_line input = option_and_then (λ e. cond (ltb 16384 e) None (Some (take e input, drop (suc e) input))) (first_lf input)

pub record FourLines : Type 0 where
  pub table : List ℕ
  pub configuration : List ℕ
  pub log : List ℕ
  pub limit : List ℕ

-- nothing follows the fourth line
abbrev pub ending : FourLines → List ℕ → Option FourLines
ending lines [] = Some lines
ending lines (b ∷ bs) = None

unfoldable pub lines_of : List ℕ → Option FourLines
lines_of input =
    option_and_then (λ a. option_and_then (λ b. option_and_then (λ c. option_and_then (λ d.
    ending (record { table = a.0; configuration = b.0; log = c.0; limit = d.0 }) d.1) (split_line c.1)) (split_line b.1)) (split_line a.1)) (split_line input)

-- what the routine's lines hold
abbrev pub texts : Lines → FourLines
texts lines = record { table = lines.table.now; configuration = lines.configuration.now; log = lines.log.now; limit = lines.limit.now }

unfoldable pub request_of : FourLines → Option Request
request_of lines =
    option_and_then (λ table. option_and_then (λ configuration. option_and_then (λ log. option_map (λ limit.
    record { table = table; configuration = configuration; log = log; limit = limit }) (limit_in lines.limit)) (accepted 256 (log_items lines.log)))
    (accepted 1024 (items word_of lines.configuration))) (accepted 2048 (items word_of lines.table))

unfoldable pub request_in : List ℕ → Option Request
request_in input = option_and_then request_of (lines_of input)
