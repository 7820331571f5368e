-- What the program answers and writes (document 01, "The replay desk").
use Rattle.std.specs.Prelude.{Option, None, Some, Err, List, [], ◌∷◌, ◌++◌, map, ℕ, ℤ, length}
use Rattle.minuska.specs.Term.{Term, single}
use Rattle.minuska.specs.Word.{encode}
use Rattle.minuska.specs.declared.Refusal.{Refusal}
use Rattle.minuska.specs.declared.Refusal.TheVariants.{OverLimit, Unreadable}
use Rattle.minuska.specs.Answer.{Outcome, refused, gives, ReplayResult, reproduced, exceeded, not_reproduced}
use Rattle.minuska.specs.Slice.{replay_says}
use Rattle.minuska.specs.Computed.Outcome.{replay_outcome}
use Rattle.decimal.specs.Decimal.{ascii, decimal, whole_text}
use Rattle.cli.specs.Input.{line, Request}

-- "It lends 1,024 words of out and 4,096 of work", and as many choices as a log line holds actions. No request: "beyond is 7", before all else.
unfoldable pub answered : Option Request → Outcome (ReplayResult Term)
answered None = refused Unreadable
answered (Some q) = replay_outcome q.table q.configuration q.log q.limit 1024 256 4096

-- "`reproduced,` the step count and the picks parted by commas, then a second line with the final configuration"
abbrev pub reproduced_text : List ℕ → List ℤ → List ℕ
reproduced_text choices words = line (ascii "reproduced" ∷ map decimal (length choices ∷ choices)) ++ line (map whole_text words)

-- "or `refused,` and the number"
abbrev pub refused_text : Refusal → List ℕ
refused_text r = line (ascii "refused" ∷ decimal (replay_says (Err r)).number ∷ [])

-- "or `not reproduced`"
abbrev pub not_reproduced_text : List ℕ
not_reproduced_text = line (ascii "not reproduced" ∷ [])

-- the four answers; "each line ends in LF"
unfoldable pub answer_text : Outcome (ReplayResult Term) → List ℕ
answer_text (refused r) = refused_text r
answer_text (gives (reproduced choices last)) = reproduced_text choices (encode (single last))
answer_text (gives exceeded) = refused_text OverLimit
answer_text (gives not_reproduced) = not_reproduced_text
