-- P8 to P12 (document 01): an input's bytes, and the bytes that the program answers. One statement for them all.
use Rattle.std.specs.Prelude.{◌≡◌, List, [], ◌∷◌, ◌++◌, ℕ, ◌≤◌, length}
use Prim.Native.String as S
use Rattle.minuska.specs.Basics.{Every}
use Rattle.minuska.specs.Slice.{write}
use Rattle.decimal.specs.Decimal.{ascii}
use Rattle.cli.specs.Contract.{max_output, AnswerContract}

pub record Exchange : Type 0 where
  pub input : List ℕ
  pub output : List ℕ

-- on the table and configuration of document 01's whole case: the log's line and the ceiling's, and the answer
abbrev pub sample_exchange : S.String → S.String → Exchange
sample_exchange lines answer =
    record {
      input = ascii "3,10,1,9,1,3,0,9,1,4,9,3,0,2,1,4,12,2,0,3,0,1,1,10,0,9,1,3,0,10,2,3,0,9,1,3,0,20,0,10,2,3,0,3,1,3,1\n9,1,2,2\n" ++ ascii lines;
      output = ascii answer;
    }

abbrev pub cases : List Exchange
cases =
    -- P8: the whole case
    sample_exchange "10,20\n4\n" "reproduced,2,1,2\n9,1,2,2\n" ∷
    -- P9: the same with ceiling 3
    sample_exchange "10,20\n3\n" "refused,6\n" ∷
    -- P10: log 20
    sample_exchange "20\n4\n" "not reproduced\n" ∷
    -- P11: the empty log
    sample_exchange "\n4\n" "reproduced,0\n9,1,2,2\n" ∷
    -- P12: log 10,10,20
    sample_exchange "10,10,20\n4\n" "reproduced,3,0,1,2\n9,1,2,1\n" ∷ []

-- Whatever meets the contract of `answer` on the case's input, with an output that holds every answer: exactly these bytes stand at the output's start, bytes
-- behind them keep, and their number is returned.
abbrev pub Answered : Exchange → Type 0
Answered c =
    (output output' : List ℕ) (r : ℕ) → max_output ≤ length output → AnswerContract c.input output output' r → (output' ≡ write c.output output) × (r ≡ length c.output)

abbrev pub AllAnswered : List Exchange → Type 0
AllAnswered cs = Every Answered cs
