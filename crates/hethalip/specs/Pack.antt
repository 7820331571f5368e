-- THE NUMBER that a C caller gets for each answer: the low byte is its kind, the bits above it are its values, all else is 0.
use Rattle.std.specs.Prelude.{◌≡◌, ℕ, ◌+◌, ◌*◌, ◌^◌, Option, Some, None, Result, Ok, Err}
use Rattle.minuska.specs.declared.Refusal.{Refusal}
use Rattle.minuska.specs.declared.Stepped.{Stepped}
use Rattle.minuska.specs.declared.MatchAnswer.{MatchAnswer}
use Rattle.minuska.specs.declared.MatchAnswer.TheVariants as M
use Rattle.minuska.specs.declared.RunAnswer.{RunAnswer}
use Rattle.minuska.specs.declared.RunAnswer.TheVariants as R
use Rattle.minuska.specs.declared.ReplayAnswer.{ReplayAnswer}
use Rattle.minuska.specs.declared.ReplayAnswer.TheVariants as P
use Rattle.minuska.specs.Answer.{number}
use Rattle.minuska.specs.Slice.{Said, check_says, match_says, reasons_says, step_says, run_says, replay_says}
use Rattle.hethalip.specs.declared.pack.Kind.{Kind}
use Rattle.hethalip.specs.declared.pack.Kind.TheVariants as K

-- the low byte of an answer that is no refusal
abbrev pub kind_number : Kind → ℕ
kind_number K.Good = 0
kind_number K.Over = 6
kind_number K.Stuck = 16
kind_number K.Stepped = 17
kind_number K.RanStuck = 18
kind_number K.RanSpent = 19
kind_number K.Reproduced = 20
kind_number K.NotReproduced = 21
kind_number K.Matches = 22
kind_number K.Differs = 23
kind_number K.Listed = 24
kind_number K.NotStuck = 25

-- the two checks: 0 good
abbrev pub good_number : Unit {0} → ℕ
good_number _ = 0

-- the left of one rule: 22 it matches, 23 it does not, bits 8 up the nodes compared
abbrev pub match_number : MatchAnswer → ℕ
match_number (M.Matches k) = 22 + k * 2 ^ 8
match_number (M.Differs k) = 23 + k * 2 ^ 8

-- the reasons: 24 stuck, they are listed; 25 not stuck, bits 8 up the step's rule
abbrev pub reasons_number : Option ℕ → ℕ
reasons_number None = 24
reasons_number (Some rule) = 25 + rule * 2 ^ 8

-- the step, the step by one given rule: 17 stepped, bits 8 to 15 the rule, 16 to 31 the action, 32 up the node count; 16 stuck, or does not apply
abbrev pub step_number : Option Stepped → ℕ
step_number (Some s) = 17 + s.rule * 2 ^ 8 + s.action * 2 ^ 16 + s.nodes * 2 ^ 32
step_number None = 16

-- the run: 18 stuck, 19 spent, 6 over the limit, bits 8 up the count of steps
abbrev pub run_number : RunAnswer → ℕ
run_number (R.Stuck k) = 18 + k * 2 ^ 8
run_number (R.Spent k) = 19 + k * 2 ^ 8
run_number (R.Over k) = (run_says (Ok (R.Over k))).number + k * 2 ^ 8

-- the replay: 20 reproduced, 21 not reproduced
abbrev pub replay_number : ReplayAnswer → ℕ
replay_number P.Reproduced = 20
replay_number P.NotReproduced = 21

-- an answer that is no refusal has its own number; of a refusal the number that is said, 1 to 6, document 01's
abbrev pub pack_by : {A : Type 0} → (A → ℕ) → (Result A Refusal → Said) → Result A Refusal → ℕ
pack_by of says (Ok answer) = of answer
pack_by of says (Err why) = (says (Err why)).number

unfoldable pub pack_check : Result (Unit {0}) Refusal → ℕ
pack_check answer = (check_says answer).number

unfoldable pub pack_match : Result MatchAnswer Refusal → ℕ
pack_match = pack_by match_number match_says

unfoldable pub pack_reasons : Result (Option ℕ) Refusal → ℕ
pack_reasons = pack_by reasons_number reasons_says

unfoldable pub pack_step : Result (Option Stepped) Refusal → ℕ
pack_step = pack_by step_number step_says

unfoldable pub pack_run : Result RunAnswer Refusal → ℕ
pack_run = pack_by run_number run_says

unfoldable pub pack_replay : Result ReplayAnswer Refusal → ℕ
pack_replay = pack_by replay_number replay_says

-- The one packing of the code: an answer's own number, or the refusal's. `proofs/SaysLaw`: it is each of the six.
abbrev pub pack : {A : Type 0} → (A → ℕ) → Result A Refusal → ℕ
pack of (Ok answer) = of answer
pack of (Err why) = number why

-- THE CONTRACT of every function here: r is the number of an answer that meets the routine's own contract, which says each lent slice afterwards too.
pub record Packs {A : Type 0} (pack : A → ℕ) (Contract : A → Type 0) (r : ℕ) : Type 0 where
  pub answer : A
  pub contract : Contract answer
  pub packed : r ≡ pack answer
