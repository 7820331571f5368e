-- The shut names, opened: equations for what proofs about code cite, so that they need no `unfolding`.
use mathlib.Core.Path.{◌≡◌, refl}
use mathlib.Core.List.{List}
use Prim.Native.Nat.{ℕ, zero, suc, ◌*◌}
use lib.IntN.{ℤ}
use lib.Dec.{ltb}
use lib.ListN.{length, get_elem?}
use Rattle.minuska.specs.Term.{Term, single, node_count}
use Rattle.minuska.specs.Word.{encode}
use Rattle.minuska.specs.Rule.{Table, max_steps, max_actions}
use Rattle.minuska.specs.Answer.{Refusal, refused, gives, stepped, RunResult, ReplayResult, reproduced, exceeded, not_reproduced}
use Rattle.minuska.specs.Computed.Compare.{match_numbered, match_rule}
use Rattle.minuska.specs.Computed.Step.{successor_by, earliest, next, order, answered, with_number, step_by_rule, step}
use Rattle.minuska.specs.Computed.Reasons.{reasons_of, listed_unless, reasons}
use Rattle.minuska.specs.Computed.Run.{last_turn, turn, run}
use Rattle.minuska.specs.Computed.Replay.{search, replay}
use Rattle.minuska.specs.Claim.{work_words}
use Rattle.minuska.specs.Slice.{write, write_zeros, write_filled, out_limit, step_out, run_out, run_spare, replay_out, replay_choices, replay_work}
use Rattle.minuska.specs.Computed.Outcome.{on_words, tested, size_tests, limit_refused, run_short, replay_short, match_outcome, list_tests, reasons_outcome, rule_outcome, step_outcome, run_outcome, replay_outcome}

-- ---- the answers
pub match_rule_is : (table : Table) (n : ℕ) (g : Term) → match_rule table n g ≡ match_numbered (get_elem? table n) g
unfolding match_rule
match_rule_is table n g = refl

pub reasons_is : (table : Table) (g : Term) → reasons table g ≡ listed_unless (earliest table g) (reasons_of table g)
unfolding reasons
reasons_is table g = refl

pub step_by_rule_is : (table : Table) (limit n : ℕ) (g : Term) → step_by_rule table limit n g ≡ answered table limit (with_number n (successor_by table n g))
unfolding step_by_rule
step_by_rule_is table limit n g = refl

pub step_is_lem : (table : Table) (limit : ℕ) (g : Term) → step table limit g ≡ answered table limit (earliest table g)
unfolding step
step_is_lem table limit g = refl

pub run_zero_is : (table : Table) (limit : ℕ) (g : Term) → run table limit zero g ≡ last_turn g (step table limit g)
unfolding run
run_zero_is table limit g = refl

pub run_suc_is : (table : Table) (limit b : ℕ) (g : Term) → run table limit (suc b) g ≡ turn g (λ h. run table limit b h) (step table limit g)
unfolding run
run_suc_is table limit b g = refl

pub replay_is : (table : Table) (limit : ℕ) (log : List ℕ) (g : Term) → replay table limit log g ≡ search node_count limit (next table) (order table) log g
unfolding replay
replay_is table limit log g = refl

-- ---- the outcomes on words
module _ (ws cs : List ℤ) where
  pub match_outcome_is : (n : ℕ) → match_outcome ws cs n ≡ on_words ws cs λ t g. gives (match_rule t n g)
  unfolding match_outcome
  match_outcome_is n = refl

  pub reasons_outcome_is : (list : ℕ) → reasons_outcome ws cs list ≡ on_words ws cs λ t g. tested (list_tests list t) (reasons t g)
  unfolding reasons_outcome
  reasons_outcome_is list = refl

  pub rule_outcome_is : (n out : ℕ) → rule_outcome ws cs n out ≡ on_words ws cs λ t g. gives (step_by_rule t (out_limit out) n g)
  unfolding rule_outcome
  rule_outcome_is n out = refl

  pub step_outcome_is : (out : ℕ) → step_outcome ws cs out ≡ on_words ws cs λ t g. gives (step t (out_limit out) g)
  unfolding step_outcome
  step_outcome_is out = refl

  pub run_outcome_is : (budget n out spare : ℕ) → run_outcome ws cs budget n out spare ≡ on_words ws cs λ t g. tested (size_tests (ltb max_steps budget) (limit_refused n g) (run_short n out spare)) (run t n budget g)
  unfolding run_outcome
  run_outcome_is budget n out spare = refl

  pub replay_outcome_is : (log : List ℕ) (n out choices work : ℕ) → replay_outcome ws cs log n out choices work ≡ on_words ws cs λ t g. tested (size_tests (ltb max_actions (length log)) (limit_refused n g) (replay_short n log out choices work)) (replay t n log g)
  unfolding replay_outcome
  replay_outcome_is log n out choices work = refl

-- ---- the slices afterwards
module _ (old : List ℤ) where
  pub step_out_stepped : (n a : ℕ) (h : Term) → step_out (gives (stepped n a h)) old ≡ write (encode (single h)) old
  unfolding step_out
  step_out_stepped n a h = refl

  module _ (n : ℕ) where
    pub run_out_refused : (r : Refusal) → run_out n (refused r) old ≡ old
    unfolding run_out
    run_out_refused r = refl

    pub run_out_gives : (x : RunResult) → run_out n (gives x) old ≡ write_filled (2 * n) (encode (single x.last)) old
    unfolding run_out
    run_out_gives x = refl

    pub run_spare_refused : (r : Refusal) → run_spare n (refused r) old ≡ old
    unfolding run_spare
    run_spare_refused r = refl

    pub run_spare_gives : (x : RunResult) → run_spare n (gives x) old ≡ write_zeros (2 * n) old
    unfolding run_spare
    run_spare_gives x = refl

  pub replay_out_refused : (r : Refusal) → replay_out (refused r) old ≡ old
  unfolding replay_out
  replay_out_refused r = refl

  pub replay_out_reproduced : (ns : List ℕ) (h : Term) → replay_out (gives (reproduced ns h)) old ≡ write (encode (single h)) old
  unfolding replay_out
  replay_out_reproduced ns h = refl

  pub replay_out_exceeded : replay_out (gives exceeded) old ≡ old
  unfolding replay_out
  replay_out_exceeded = refl

  pub replay_out_not : replay_out (gives not_reproduced) old ≡ old
  unfolding replay_out
  replay_out_not = refl

  pub replay_work_refused : (n : ℕ) (log : List ℕ) (r : Refusal) → replay_work n log (refused r) old ≡ old
  unfolding replay_work
  replay_work_refused n log r = refl

  pub replay_work_gives : (n : ℕ) (log : List ℕ) (x : ReplayResult Term) → replay_work n log (gives x) old ≡ write_zeros (work_words n log) old
  unfolding replay_work
  replay_work_gives n log x = refl

module _ (old : List ℕ) where
  pub replay_choices_refused : (r : Refusal) → replay_choices (refused r) old ≡ old
  unfolding replay_choices
  replay_choices_refused r = refl

  pub replay_choices_reproduced : (ns : List ℕ) (h : Term) → replay_choices (gives (reproduced ns h)) old ≡ write ns old
  unfolding replay_choices
  replay_choices_reproduced ns h = refl

  pub replay_choices_exceeded : replay_choices (gives exceeded) old ≡ old
  unfolding replay_choices
  replay_choices_exceeded = refl

  pub replay_choices_not : replay_choices (gives not_reproduced) old ≡ old
  unfolding replay_choices
  replay_choices_not = refl
