-- What the program reads (document 01, "The replay desk"): four lines, each ended by LF.
use Rattle.std.specs.Prelude.{◌≡◌, Bool, List, [], ◌∷◌, ◌++◌, map, ℕ, ◌≤◌, ℤ, T, length}
use Rattle.minuska.specs.Basics.{every}
use Rattle.decimal.specs.Decimal.{ascii, decimal, whole_text}
use Rattle.decimal.specs.Line.{parted, is_word, is_action, is_limit}

-- "each ended by LF"
abbrev pub line : List (List ℕ) → List ℕ
line ts = parted ts ++ ascii "\n"

-- "table, configuration, log, ceiling"
pub record Request : Type 0 where
  pub table : List ℤ
  pub configuration : List ℤ
  pub log : List ℕ
  pub limit : ℕ

unfoldable pub input_text : Request → List ℕ
input_text q =
    line (map whole_text q.table) ++ (line (map whole_text q.configuration) ++ (line (map decimal q.log) ++ line (decimal q.limit ∷ [])))

-- The numbers of one line: each fits, there are not too few and not too many, and "at most 16,384 bytes a line without its LF".
pub record Field {A : Type 0} (text : A → List ℕ) (fits : A → Bool) (least most : ℕ) (xs : List A) : Type 0 where
  pub each : T (every fits xs)
  pub enough : least ≤ length xs
  pub few : length xs ≤ most
  pub short : length (parted (map text xs)) ≤ 16384

-- The bytes are the text of a request. "Only the log line may be empty .. The ceiling line holds one number. Nothing follows the fourth line.
-- At most .. 2,048 table numbers, 1,024 configuration numbers, 256 actions."
pub record IsInput (bytes : List ℕ) (q : Request) : Type 0 where
  pub text : bytes ≡ input_text q
  pub table : Field whole_text is_word 1 2048 q.table
  pub configuration : Field whole_text is_word 1 1024 q.configuration
  pub log : Field decimal is_action 0 256 q.log
  pub limit : Field decimal is_limit 1 1 (q.limit ∷ [])
