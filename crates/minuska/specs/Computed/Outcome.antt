-- What each routine answers, for all words: lower numbers go first, then the computed answer. The names that contracts cite are shut.
-- `proofs/OutcomeLaw` and `RefusalLaw`: they meet the claims.
use Rattle.std.specs.Prelude.{Bool, ◌||◌, cond, List, [], ◌∷◌, ℕ, ◌*◌, ℤ, eqb, ltb, length, Result, Ok, Err}
use Rattle.std.proofs.Math.Option.{Option, none, some}
use Rattle.minuska.specs.Basics.{◌>>=◌}
use Rattle.minuska.specs.Term.{Term, single, node_count}
use Rattle.minuska.specs.Subterm.{subterm_at}
use Rattle.minuska.specs.Word.{encode}
use Rattle.minuska.specs.Rule.{Table, max_nodes, max_steps, max_actions}
use Rattle.minuska.specs.Slice.{out_limit}
use Rattle.minuska.specs.Claim.{work_words}
use Rattle.minuska.specs.Answer.{Refusal, BadTable, BadConfiguration, TooLong, BadLimit, ShortBuffer, Outcome, refused, gives, MatchResult, ReasonsResult, StepResult, RunResult, ReplayResult}
use Rattle.minuska.specs.Computed.Read.{read_table, read_configuration}
use Rattle.minuska.specs.Computed.Compare.{match_rule}
use Rattle.minuska.specs.Computed.Step.{step_by_rule, step}
use Rattle.minuska.specs.Computed.Reasons.{reasons}
use Rattle.minuska.specs.Computed.Run.{run}
use Rattle.minuska.specs.Computed.Replay.{replay}

-- a value that must be there
abbrev pub need : {A B : Type 0} → Refusal → Option A → (A → Outcome B) → Outcome B
need r none go = refused r
need r (some a) go = go a

-- 1 and 2: the words are a table and a configuration
abbrev pub on_words : {A : Type 0} → List ℤ → List ℤ → (Table → Term → Outcome A) → Outcome A
on_words table config go = need BadTable (read_table table) λ t. need BadConfiguration (read_configuration config) λ g. go t g

-- tests that must not pass, in order
pub record Test : Type 0 where
  pub refusal : Refusal
  pub given : Bool

abbrev pub tested : {A : Type 0} → List Test → A → Outcome A
tested [] x = gives x
tested (t ∷ ts) x = cond t.given (refused t.refusal) (tested ts x)

-- 3, 4 and 5
abbrev pub size_tests : Bool → Bool → Bool → List Test
size_tests long limit short =
    record { refusal = TooLong; given = long } ∷ record { refusal = BadLimit; given = limit } ∷ record { refusal = ShortBuffer; given = short } ∷ []

-- the two checks: good, or 1, or 2
abbrev pub checked : {A : Type 0} → Refusal → Option A → Result (Unit {0}) Refusal
checked r none = Err r
checked r (some a) = Ok tt

unfoldable pub table_check : List ℤ → Result (Unit {0}) Refusal
table_check ws = checked BadTable (read_table ws)

unfoldable pub configuration_check : List ℤ → Result (Unit {0}) Refusal
configuration_check ws = checked BadConfiguration (read_configuration ws)

-- both, the table's first: "lower numbers go first"
abbrev pub or_second : Result (Unit {0}) Refusal → Result (Unit {0}) Refusal → Result (Unit {0}) Refusal
or_second (Ok _) y = y
or_second (Err r) y = Err r

-- the words of the subterm at a place; none where the words are no configuration or the place is no node
abbrev pub term_words : Option Term → List ℤ
term_words none = []
term_words (some t) = encode (single t)

unfoldable pub subterm_words : List ℤ → ℕ → List ℤ
subterm_words config place = term_words (read_configuration config >>= λ g. subterm_at (single g) place)

-- the left of one rule, by the words
unfoldable pub match_outcome : List ℤ → List ℤ → ℕ → Outcome MatchResult
match_outcome table config n = on_words table config λ t g. gives (match_rule t n g)

-- why each rule does not apply, by the words and the list's length: 5, "a list under two words a rule", goes by the rule count
abbrev pub list_tests : ℕ → Table → List Test
list_tests list t = record { refusal = ShortBuffer; given = ltb list (2 * length t) } ∷ []

unfoldable pub reasons_outcome : List ℤ → List ℤ → ℕ → Outcome ReasonsResult
reasons_outcome table config list = on_words table config λ t g. tested (list_tests list t) (reasons t g)

-- the step by one given rule, and the step, by the words and the out slice's length
unfoldable pub rule_outcome : List ℤ → List ℤ → ℕ → ℕ → Outcome StepResult
rule_outcome table config n out = on_words table config λ t g. gives (step_by_rule t (out_limit out) n g)

unfoldable pub step_outcome : List ℤ → List ℤ → ℕ → Outcome StepResult
step_outcome table config out = on_words table config λ t g. gives (step t (out_limit out) g)

-- 4: "N is 0, above 32,768, or below the opening's nodes"
abbrev pub limit_refused : ℕ → Term → Bool
limit_refused n g = eqb n 0 || ltb max_nodes n || ltb n (node_count g)

-- the run, by the words, budget, N, and the lengths of out and spare
abbrev pub run_short : ℕ → ℕ → ℕ → Bool
run_short n out spare = ltb out (2 * n) || ltb spare (2 * n)

unfoldable pub run_outcome : List ℤ → List ℤ → ℕ → ℕ → ℕ → ℕ → Outcome RunResult
run_outcome table config budget n out spare =
    on_words table config λ t g. tested (size_tests (ltb max_steps budget) (limit_refused n g) (run_short n out spare)) (run t n budget g)

-- the replay, by the words, the log, N, and the lengths of out, choices and work
abbrev pub replay_short : ℕ → List ℕ → ℕ → ℕ → ℕ → Bool
replay_short n log out choices work = ltb out (2 * n) || ltb choices (length log) || ltb work (work_words n log)

unfoldable pub replay_outcome : List ℤ → List ℤ → List ℕ → ℕ → ℕ → ℕ → ℕ → Outcome (ReplayResult Term)
replay_outcome table config log n out choices work =
    on_words table config λ t g. tested (size_tests (ltb max_actions (length log)) (limit_refused n g) (replay_short n log out choices work)) (replay t n log g)
