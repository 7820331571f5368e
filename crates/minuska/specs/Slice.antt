-- What a routine returns and leaves: its answer with document 01's number, and every word of every lent slice afterwards (the columns of
-- "Turned back", and "Step, run, replay"). Shut names, for contracts.
use Rattle.std.specs.Prelude.{List, [], ◌∷◌, ◌++◌, ℕ, ◌*◌, ◌-◌, ◌/◌, min, ℤ, pos, length, drop, replicate, Option, Some, None, Result, Ok, Err}
use Rattle.minuska.specs.declared.MatchAnswer.TheVariants as M
use Rattle.minuska.specs.declared.RunAnswer.TheVariants as R
use Rattle.minuska.specs.declared.ReplayAnswer.TheVariants as P
use Rattle.minuska.specs.Term.{Term, single, node_count}
use Rattle.minuska.specs.Word.{encode}
use Rattle.minuska.specs.Obstacle.{Reason, left_differs, condition_fails}
use Rattle.minuska.specs.Rule.{max_nodes}
use Rattle.minuska.specs.Claim.{work_words}
use Rattle.minuska.specs.Answer.{Refusal, OverLimit, number, Stepped, MatchAnswer, RunAnswer, ReplayAnswer, Outcome, refused, gives, MatchResult, matched, misfit, ReasonsResult, listed, not_stuck, StepResult, stepped, stuck, too_large, Ending, ends_stuck, ends_spent, ends_over, RunResult, ReplayResult, reproduced, exceeded, not_reproduced}

-- WHAT IS SAID: document 01's number, 0 where nothing is refused, and the values that are returned with it.
pub record Said : Type 0 where
  pub number : ℕ
  pub values : List ℕ

abbrev pub told : List ℕ → Said
told values = record { number = 0; values = values }

abbrev pub turned_back : Refusal → List ℕ → Said
turned_back r values = record { number = number r; values = values }

-- by each case of what a routine returns
unfoldable pub check_says : Result (Unit {0}) Refusal → Said
check_says (Ok _) = told []
check_says (Err r) = turned_back r []

unfoldable pub match_says : Result MatchAnswer Refusal → Said
match_says (Ok (M.Matches k)) = told (k ∷ [])
match_says (Ok (M.Differs k)) = told (k ∷ [])
match_says (Err r) = turned_back r []

-- none: stuck, and the list is written; else the rule that a step takes
unfoldable pub reasons_says : Result (Option ℕ) Refusal → Said
reasons_says (Ok None) = told []
reasons_says (Ok (Some n)) = told (n ∷ [])
reasons_says (Err r) = turned_back r []

-- none: stuck
unfoldable pub step_says : Result (Option Stepped) Refusal → Said
step_says (Ok (Some s)) = told (s.rule ∷ s.action ∷ s.nodes ∷ [])
step_says (Ok None) = told []
step_says (Err r) = turned_back r []

unfoldable pub run_says : Result RunAnswer Refusal → Said
run_says (Ok (R.Stuck k)) = told (k ∷ [])
run_says (Ok (R.Spent k)) = told (k ∷ [])
run_says (Ok (R.Over k)) = turned_back OverLimit (k ∷ [])
run_says (Err r) = turned_back r []

unfoldable pub replay_says : Result ReplayAnswer Refusal → Said
replay_says (Ok P.Reproduced) = told []
replay_says (Ok P.NotReproduced) = told []
replay_says (Err r) = turned_back r []

-- by an outcome
abbrev pub outcome_says : {A : Type 0} → (A → Said) → Outcome A → Said
outcome_says says (refused r) = turned_back r []
outcome_says says (gives x) = says x

abbrev pub match_result_says : MatchResult → Said
match_result_says (matched k) = told (k ∷ [])
match_result_says (misfit k) = told (k ∷ [])

abbrev pub reasons_result_says : ReasonsResult → Said
reasons_result_says (listed os) = told []
reasons_result_says (not_stuck n) = told (n ∷ [])  -- "otherwise the answer is the step's rule"

abbrev pub step_result_says : StepResult → Said
step_result_says (stepped n a h) = told (n ∷ a ∷ node_count h ∷ [])  -- "Answer: rule number, action, node count"
step_result_says stuck = told []
step_result_says too_large = turned_back OverLimit []

abbrev pub ending_says : Ending → List ℕ → Said
ending_says ends_stuck ks = told ks
ending_says ends_spent ks = told ks
ending_says ends_over ks = turned_back OverLimit ks  -- "number; run also k"

abbrev pub run_result_says : RunResult → Said
run_result_says x = ending_says x.ending (x.steps ∷ [])

abbrev pub replay_result_says : ReplayResult Term → Said
replay_result_says (reproduced ns h) = told []
replay_result_says exceeded = turned_back OverLimit []
replay_result_says not_reproduced = told []

-- THE ANSWERS RETURNED: what each outcome is in what the routine returns.
unfoldable pub match_answer : Outcome MatchResult → Result MatchAnswer Refusal
match_answer (refused r) = Err r
match_answer (gives (matched k)) = Ok (M.Matches k)
match_answer (gives (misfit k)) = Ok (M.Differs k)

unfoldable pub reasons_answer : Outcome ReasonsResult → Result (Option ℕ) Refusal
reasons_answer (refused r) = Err r
reasons_answer (gives (listed os)) = Ok None
reasons_answer (gives (not_stuck n)) = Ok (Some n)

unfoldable pub step_answer : Outcome StepResult → Result (Option Stepped) Refusal
step_answer (refused r) = Err r
step_answer (gives (stepped n a h)) = Ok (Some (record { rule = n; action = a; nodes = node_count h }))
step_answer (gives stuck) = Ok None
step_answer (gives too_large) = Err OverLimit

abbrev pub ended_as : Ending → ℕ → RunAnswer
ended_as ends_stuck k = R.Stuck k
ended_as ends_spent k = R.Spent k
ended_as ends_over k = R.Over k

unfoldable pub run_answer : Outcome RunResult → Result RunAnswer Refusal
run_answer (refused r) = Err r
run_answer (gives x) = Ok (ended_as x.ending x.steps)

unfoldable pub replay_answer : Outcome (ReplayResult Term) → Result ReplayAnswer Refusal
replay_answer (refused r) = Err r
replay_answer (gives (reproduced ns h)) = Ok P.Reproduced
replay_answer (gives exceeded) = Err OverLimit
replay_answer (gives not_reproduced) = Ok P.NotReproduced

-- THE SLICES AFTERWARDS.
-- Words written from the start of a slice, "the words behind it keep"; the same with zeros behind, up to n words.
abbrev pub write : {A : Type 0} → List A → List A → List A
write xs old = xs ++ drop (length xs) old

abbrev pub write_zeros : ℕ → List ℤ → List ℤ
write_zeros n old = write (replicate n (pos 0)) old

abbrev pub write_filled : ℕ → List ℤ → List ℤ → List ℤ
write_filled n xs old = write (xs ++ replicate (n - length xs) (pos 0)) old

-- "The ceiling is half the out slice's words, rounded down, at most 32,768 nodes."
abbrev pub out_limit : ℕ → ℕ
out_limit out = min (out / 2) max_nodes

-- The reasons: "two words for each rule in number order: 0 and the place .. , or else 1 and the lowest failing condition's number from 0; later words keep"; not
-- stuck: "the list keeps its words".
abbrev pub reason_words : List Reason → List ℤ
reason_words [] = []
reason_words (left_differs place ∷ os) = pos 0 ∷ pos place ∷ reason_words os
reason_words (condition_fails n ∷ os) = pos 1 ∷ pos n ∷ reason_words os

unfoldable pub reasons_list : Outcome ReasonsResult → List ℤ → List ℤ
reasons_list (refused r) old = old
reasons_list (gives (listed os)) old = write (reason_words os) old
reasons_list (gives (not_stuck n)) old = old

-- The step, and the step by one rule: "the successor is written from the start of the out slice"; stuck, 6: nothing is.
unfoldable pub step_out : Outcome StepResult → List ℤ → List ℤ
step_out (refused r) old = old
step_out (gives (stepped n a h)) old = write (encode (single h)) old
step_out (gives stuck) old = old
step_out (gives too_large) old = old

-- The run: "the k-th configuration stands at the start of out, zeros follow up to 2N words; spare's first 2N words are zero; later words of both keep".
unfoldable pub run_out : ℕ → Outcome RunResult → List ℤ → List ℤ
run_out n (refused r) old = old
run_out n (gives x) old = write_filled (2 * n) (encode (single x.last)) old

unfoldable pub run_spare : ℕ → Outcome RunResult → List ℤ → List ℤ
run_spare n (refused r) old = old
run_spare n (gives x) old = write_zeros (2 * n) old

-- Reproduced: the list "goes to the picks, its last configuration to out, words behind both keep"; else both keep. "The work area's required
-- words are 0, later ones keep."
unfoldable pub replay_out : Outcome (ReplayResult Term) → List ℤ → List ℤ
replay_out (refused r) old = old
replay_out (gives (reproduced ns h)) old = write (encode (single h)) old
replay_out (gives exceeded) old = old
replay_out (gives not_reproduced) old = old

unfoldable pub replay_choices : Outcome (ReplayResult Term) → List ℕ → List ℕ
replay_choices (refused r) old = old
replay_choices (gives (reproduced ns h)) old = write ns old
replay_choices (gives exceeded) old = old
replay_choices (gives not_reproduced) old = old

unfoldable pub replay_work : ℕ → List ℕ → Outcome (ReplayResult Term) → List ℤ → List ℤ
replay_work n log (refused r) old = old
replay_work n log (gives x) old = write_zeros (work_words n log) old
