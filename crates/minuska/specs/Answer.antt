-- What the routines find, over terms, and the refusals with their numbers (document 01, "Turned back").
use Rattle.std.specs.Prelude.{List, [], ◌∷◌, ℕ}
pub use Rattle.minuska.specs.declared.Refusal.{Refusal}
pub use Rattle.minuska.specs.declared.Refusal.TheVariants.{BadTable, BadConfiguration, TooLong, BadLimit, ShortBuffer, OverLimit, Unreadable}
pub use Rattle.minuska.specs.declared.Stepped.{Stepped}
pub use Rattle.minuska.specs.declared.MatchAnswer.{MatchAnswer}
pub use Rattle.minuska.specs.declared.RunAnswer.{RunAnswer}
pub use Rattle.minuska.specs.declared.ReplayAnswer.{ReplayAnswer}
use Rattle.minuska.specs.Term.{Term}
use Rattle.minuska.specs.Obstacle.{Reason}

-- "number", "word": bad table, bad opening, too long, bad ceiling, cramped, over ceiling, unreadable
unfoldable pub number : Refusal → ℕ
number BadTable = 1
number BadConfiguration = 2
number TooLong = 3
number BadLimit = 4
number ShortBuffer = 5
number OverLimit = 6
number Unreadable = 7

-- all of them, by their numbers
abbrev pub refusals : List Refusal
refusals = BadTable ∷ BadConfiguration ∷ TooLong ∷ BadLimit ∷ ShortBuffer ∷ OverLimit ∷ Unreadable ∷ []

-- A row of "Turned back": a refusal, and when it is given if no row above it is.
pub record Row : Type 1 where
  pub refusal : Refusal
  pub Given : Type 0

-- An answer, or a refusal before any.
pub data Outcome (A : Type 0) : Type 0 where
  refused : Refusal → Outcome A
  gives : A → Outcome A

-- The step: "rule number, action" and the successor; or stuck; or 6, it doesn't fit. The step by one given rule: stuck where that rule doesn't apply.
pub data StepResult : Type 0 where
  stepped : ℕ → ℕ → Term → StepResult
  stuck : StepResult
  too_large : StepResult

-- A left matched, conditions aside, and how many of its nodes were compared (document 02, request 3).
pub data MatchResult : Type 0 where
  matched : ℕ → MatchResult
  misfit : ℕ → MatchResult

-- Stuck, with each rule's obstacle in number order; or not, with the rule that a step takes (document 02, request 4).
pub data ReasonsResult : Type 0 where
  listed : List Reason → ReasonsResult
  not_stuck : ℕ → ReasonsResult

-- The run: k steps, the k-th configuration, and how it ended: stuck, spent, or with 6.
pub data Ending : Type 0 where
  ends_stuck ends_spent ends_over : Ending

pub record RunResult : Type 0 where
  pub steps : ℕ
  pub last : Term
  pub ending : Ending

-- The replay: reproduced, by a list of rule numbers (document 01: the picks), with the last configuration; over ceiling (6); not reproduced.
pub data ReplayResult (A : Type 0) : Type 0 where
  reproduced : List ℕ → A → ReplayResult A
  exceeded : ReplayResult A
  not_reproduced : ReplayResult A
