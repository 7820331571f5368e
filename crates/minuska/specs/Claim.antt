-- THE CLAIMS: what each answer means, over the relations alone, a field for each sentence. The computed answers meet them, and no others do (`proofs/`).
use Rattle.std.specs.Prelude.{◌≡◌, ◌⊎◌, ◌↔◌, List, [], ◌∷◌, ℕ, zero, suc, ◌+◌, ◌*◌, ◌≤◌, ◌<◌, length, ℤ, Result, Ok, Err}
use Rattle.std.proofs.Math.Option.{none, some}
use Rattle.std.proofs.Math.ListN.{get_elem?}
use Rattle.minuska.specs.Term.{Term, single, node_count}
use Rattle.minuska.specs.Satisfaction.{Valuation, Matches}
use Rattle.minuska.specs.Misfit.{Disagrees}
use Rattle.minuska.specs.Obstacle.{Reason, Obstacle}
use Rattle.minuska.specs.Rule.{Rule, Table, max_nodes, max_steps, max_actions, IsTable, IsConfiguration}
use Rattle.minuska.specs.Rewriting.{RewritesBy, Earlier, First, Applies, NextAbove, Stuck}
use Rattle.minuska.specs.Path.{Yields, Before, Exceeds}
use Rattle.minuska.specs.Answer.{Refusal, BadTable, BadConfiguration, TooLong, BadLimit, ShortBuffer, Row, Outcome, refused, gives, MatchResult, matched, misfit, ReasonsResult, listed, not_stuck, StepResult, stepped, stuck, too_large, ends_stuck, ends_spent, ends_over, RunResult, ReplayResult, reproduced, exceeded, not_reproduced}

-- The two checks: good exactly if there is such a table, such a configuration; else 1, 2.
pub record TableClaim (ws : List ℤ) (x : Result (Unit {0}) Refusal) : Type 0 where
  pub good : (x ≡ Ok tt) ↔ ((table : Table) × IsTable ws table)
  pub bad : (x ≡ Err BadTable) ↔ ((table : Table) → IsTable ws table → ⊥)

pub record ConfigurationClaim (ws : List ℤ) (x : Result (Unit {0}) Refusal) : Type 0 where
  pub good : (x ≡ Ok tt) ↔ ((g : Term) × IsConfiguration ws g)
  pub bad : (x ≡ Err BadConfiguration) ↔ ((g : Term) → IsConfiguration ws g → ⊥)

-- The left of one rule, conditions aside, and "how many left nodes it compared" (document 02, request 3).
pub record MatchClaim (table : Table) (n : ℕ) (g : Term) (x : MatchResult) : Type 0 where
  -- "all where the left fits,"
  pub matches : (k : ℕ) → (x ≡ matched k) ↔ ((r : Rule) × (get_elem? table n ≡ some r) × (k ≡ node_count r.left) × (ρ : Valuation) × Matches ρ (single r.left) (single g))
  -- "else those up to and including the one that disagrees."
  pub disagrees : (place : ℕ) → (x ≡ misfit (suc place)) ↔ ((r : Rule) × (get_elem? table n ≡ some r) × Disagrees r.left g place)
  -- A number that names no rule does not match, and no node is compared.
  pub names_none : (x ≡ misfit 0) ↔ (get_elem? table n ≡ none)

-- The step by one given rule: "it doesn't apply, or gives its successor, or that is too large. A number that names no rule doesn't apply."
pub record RuleClaim (table : Table) (limit n : ℕ) (g : Term) (x : StepResult) : Type 0 where
  pub steps : (m a : ℕ) (h : Term) → (x ≡ stepped m a h) ↔ ((m ≡ n) × RewritesBy table a n g h × (node_count h ≤ limit))
  pub does_not_apply : (x ≡ stuck) ↔ ((a : ℕ) (h : Term) → RewritesBy table a n g h → ⊥)
  pub refuses : (x ≡ too_large) ↔ ((a : ℕ) × (h : Term) × RewritesBy table a n g h × (limit < node_count h))

-- Demand 2, the step.
pub record StepClaim (table : Table) (limit : ℕ) (g : Term) (x : StepResult) : Type 0 where
  -- "A step relates the configuration to its successor as the Minuska definitions say, by the earliest rule that applies;"
  pub steps : (n a : ℕ) (h : Term) → (x ≡ stepped n a h) ↔ (First table g n a h × (node_count h ≤ limit))
  -- "it refuses if that successor does not fit,"
  pub refuses : (x ≡ too_large) ↔ NextAbove table limit g
  -- "and says stuck exactly if no rule and valuation relate the configuration to any term."
  pub sticks : (x ≡ stuck) ↔ Stuck table g

-- Why each rule of a stuck configuration does not apply (document 02, request 4).
pub record ReasonsClaim (table : Table) (g : Term) (x : ReasonsResult) : Type 0 where
  -- "a full list appears only for a stuck configuration;", and for every one
  pub lists : ((os : List Reason) × (x ≡ listed os)) ↔ Stuck table g
  -- "Give two words for each rule in number order"
  pub full : (os : List Reason) → x ≡ listed os → length os ≡ length table
  -- "Every entry is proved to be that rule's real obstacle,"
  pub real : (os : List Reason) → x ≡ listed os → (n : ℕ) (r : Rule) (o : Reason) → get_elem? table n ≡ some r → get_elem? os n ≡ some o → Obstacle r g o
  -- "otherwise the answer is the step's rule"
  pub otherwise : (n : ℕ) → (x ≡ not_stuck n) ↔ ((a : ℕ) × (h : Term) × First table g n a h)

-- k steps in turn lead from g to the last configuration, each by the earliest rule, none to a term above the limit.
abbrev pub Leads : Table → ℕ → ℕ → Term → Term → Type 0
Leads table limit zero g last = g ≡ last
Leads table limit (suc k) g last = (n : ℕ) × (a : ℕ) × (h : Term) × First table g n a h × (node_count h ≤ limit) × Leads table limit k h last

-- Demand 2, the run.
pub record RunClaim (table : Table) (limit budget : ℕ) (initial : Term) (x : RunResult) : Type 0 where
  -- "A run is that step repeated, with its true count."
  pub leads : Leads table limit x.steps initial x.last
  pub counts : x.steps ≤ budget
  -- "It ends stuck after k steps,"
  pub sticks : (x.ending ≡ ends_stuck) ↔ Stuck table x.last
  -- "or spent if k equals the budget and some rule still applies,"
  pub spends : (x.ending ≡ ends_spent) ↔ ((x.steps ≡ budget) × Applies table x.last)
  -- "or with 6 if k is below the budget and the next successor exceeds N nodes."
  pub exceeds : (x.ending ≡ ends_over) ↔ ((x.steps < budget) × NextAbove table limit x.last)

-- Demand 3. A list of rule numbers, one for each logged action, that applies in turn from g, with its last configuration: of any size; within the limit.
abbrev pub ListOfAnySize : Table → List ℕ → Term → List ℕ → Term → Type 0
ListOfAnySize table log g choices last = Yields (RewritesBy table) (λ h. Unit {0}) g log choices last

abbrev pub ListWithin : Table → ℕ → List ℕ → Term → List ℕ → Term → Type 0
ListWithin table limit log g choices last = Yields (RewritesBy table) (λ h. node_count h ≤ limit) g log choices last

abbrev pub SomeList : Table → ℕ → List ℕ → Term → Type 0
SomeList table limit log g = (choices : List ℕ) × (last : Term) × ListWithin table limit log g choices last

abbrev pub SomeExceeds : Table → ℕ → List ℕ → Term → Type 0
SomeExceeds table limit log g = Exceeds node_count limit (RewritesBy table) g log

pub record ReplayClaim (table : Table) (limit : ℕ) (log : List ℕ) (initial : Term) (x : ReplayResult Term) : Type 0 where
  -- "Reproduced comes exactly when some rule list, one rule carrying each logged action, applies in turn from the opening .. , with no configuration above the ceiling;"
  pub reproduces : ((choices : List ℕ) × (last : Term) × (x ≡ reproduced choices last)) ↔ SomeList table limit log initial
  -- "the replay then gives the earliest such list, .. and its final configuration."
  pub such : (choices : List ℕ) (last : Term) → x ≡ reproduced choices last → ListWithin table limit log initial choices last
  -- "every other coming later in dictionary order,"
  pub earliest : (choices : List ℕ) (last : Term) → x ≡ reproduced choices last → (others : List ℕ) (end : Term) →
      ListWithin table limit log initial others end → (others ≡ choices) ⊎ Before (Earlier table) choices others
  -- "Over ceiling comes exactly when there is no such list, but one for a first part of the log, .."
  pub exceeds : (x ≡ exceeded) ↔ ((SomeList table limit log initial → ⊥) × SomeExceeds table limit log initial)
  -- "Not reproduced comes exactly when neither holds,"
  pub fails : (x ≡ not_reproduced) ↔ ((SomeList table limit log initial → ⊥) × (SomeExceeds table limit log initial → ⊥))
  -- "and then no path of any size yields the log."
  pub none_of_any_size : x ≡ not_reproduced → (choices : List ℕ) (last : Term) → ListOfAnySize table log initial choices last → ⊥

-- A claim of an outcome on words: of every table and configuration that the words are.
pub record Meets {A : Type 0} (table_words config_words : List ℤ) (Claim : Table → Term → A → Type 0) (o : Outcome A) : Type 0 where
  pub meets : (table : Table) (g : Term) (x : A) → IsTable table_words table → IsConfiguration config_words g → o ≡ gives x → Claim table g x

-- "Turned back": "lower numbers go first", each is "given exactly if". The outcome is the refusal of the first row that holds; an answer if none does.
abbrev pub FirstGiven : {A : Type 0} → List Row → Outcome A → Type 0
FirstGiven {A} [] o = (x : A) × (o ≡ gives x)
FirstGiven (r ∷ rows) o = ((o ≡ refused r.refusal) × r.Given) ⊎ ((r.Given → ⊥) × FirstGiven rows o)

-- 1: "a table rule above is broken"; 2: "the configuration breaks its rule (empty slice included)"
abbrev pub table_row : List ℤ → Row
table_row table = record { refusal = BadTable; Given = (t : Table) → IsTable table t → ⊥ }

abbrev pub configuration_row : List ℤ → Row
configuration_row config = record { refusal = BadConfiguration; Given = (g : Term) → IsConfiguration config g → ⊥ }

abbrev pub word_rows : List ℤ → List ℤ → List Row → List Row
word_rows table config rows = table_row table ∷ configuration_row config ∷ rows

-- 3: "log above 4,096 or budget above 1,000,000"; 4: "N is 0, above 32,768, or below the opening's nodes"; 5: "a slice is shorter than stated"
abbrev pub long_row : Type 0 → Row
long_row Long = record { refusal = TooLong; Given = Long }

abbrev pub LimitOutside : ℕ → Term → Type 0
LimitOutside n g = (n ≡ 0) ⊎ (max_nodes < n) ⊎ (n < node_count g)

abbrev pub limit_row : List ℤ → ℕ → Row
limit_row config n = record { refusal = BadLimit; Given = (g : Term) × IsConfiguration config g × LimitOutside n g }

abbrev pub short_row : Type 0 → Row
short_row Short = record { refusal = ShortBuffer; Given = Short }

abbrev pub size_rows : List ℤ → ℕ → Type 0 → Type 0 → List Row
size_rows config n Long Short = long_row Long ∷ limit_row config n ∷ short_row Short ∷ []

abbrev pub step_rows : List ℤ → List ℤ → List Row
step_rows table config = word_rows table config []

-- "A list under two words a rule is 5"
abbrev pub ReasonsShort : List ℤ → ℕ → Type 0
ReasonsShort table list = (t : Table) × IsTable table t × (list < 2 * length t)

abbrev pub reasons_rows : List ℤ → List ℤ → ℕ → List Row
reasons_rows table config list = word_rows table config (short_row (ReasonsShort table list) ∷ [])

abbrev pub RunShort : ℕ → ℕ → ℕ → Type 0
RunShort n out spare = (out < 2 * n) ⊎ (spare < 2 * n)

abbrev pub run_rows : List ℤ → List ℤ → ℕ → ℕ → ℕ → ℕ → List Row
run_rows table config budget n out spare = word_rows table config (size_rows config n (max_steps < budget) (RunShort n out spare))

-- "a work area of at least (log length + 1) × (2N + 2) words"
abbrev pub work_words : ℕ → List ℕ → ℕ
work_words n log = (length log + 1) * (2 * n + 2)

abbrev pub ReplayShort : ℕ → List ℕ → ℕ → ℕ → ℕ → Type 0
ReplayShort n log out choices work = (out < 2 * n) ⊎ (choices < length log) ⊎ (work < work_words n log)

abbrev pub replay_rows : List ℤ → List ℤ → List ℕ → ℕ → ℕ → ℕ → ℕ → List Row
replay_rows table config log n out choices work =
    word_rows table config (size_rows config n (max_actions < length log) (ReplayShort n log out choices work))
