-- What the replay leaves, once the search has ended.
use Rattle.std.specs.Prelude.{◌≡◌, List, ◌++◌, ℕ, ◌+◌, ◌-◌, ◌/◌, ◌≤◌, ◌<◌, ℤ, length, take, drop, Option, Some, None, Result, Ok, Err}
use Rattle.std.proofs.Math.Seq.{paste}
use Rattle.minuska.specs.Answer.{gives}
use Rattle.minuska.specs.Slice.{replay_out, replay_choices, write_zeros}
use Rattle.minuska.specs.Computed.Step.{order}
use Rattle.minuska.specs.Computed.Replay.{replay}
use Rattle.minuska.specs.declared.Refusal.{Refusal}
use Rattle.minuska.specs.Slice.{out_limit}
use Rattle.replay.specs.Reading.{table_of, term_of}
use Rattle.memory.specs.Layout.{base, frame_at, with_frame, entered, Forgets}
use Rattle.replay.specs.Stack.{chosen}
use Rattle.replay.specs.Turns.{position_at, Begun}
use Rattle.replay.specs.Counted.{counted_answer}

-- the work area that is set up for a log of m actions: out's words behind the m frames, and no frame with a configuration but the first, which has the initial one
pub record SetsUp (room m : ℕ) (cs out work work' : List ℤ) : Type 0 where
  pub cleared : List ℤ
  pub forgets : Forgets room m (paste work (base room m) (take room out) room) cleared
  pub is : work' ≡ with_frame room cleared 0 (entered (frame_at room cleared 0) cs)

-- out with the first k words as they are, and behind them, up to `room`, what was kept for it at a place of the work area
abbrev pub restored : ℕ → ℕ → ℕ → List ℤ → List ℤ → List ℤ
restored room k at out work = take k out ++ (take (room - k) (drop (at + k) work) ++ drop room out)

-- a search that has found a path: so many words of out are its last configuration, and each frame has tried a rule
abbrev pub FoundWithin : Result (Option ℕ) Refusal → ℕ → ℕ → ℕ → List ℤ → Type 0
FoundWithin (Ok (Some k)) rules m room work = (k ≤ room) × ((i : ℕ) → i < m → Begun rules (frame_at room work i))
FoundWithin (Ok None) rules m room work = Unit {0}
FoundWithin (Err r) rules m room work = Unit {0}

-- the answer, with nodes for words; the words of out that stay; the choices
abbrev pub concluded_as : Result (Option ℕ) Refusal → Result (Option ℕ) Refusal
concluded_as (Ok (Some k)) = Ok (Some (k / 2))
concluded_as (Ok None) = Ok None
concluded_as (Err r) = Err r

abbrev pub found_words : Result (Option ℕ) Refusal → ℕ
found_words (Ok (Some k)) = k
found_words (Ok None) = 0
found_words (Err r) = 0

abbrev pub choices_after : Result (Option ℕ) Refusal → List ℕ → ℕ → ℕ → List ℤ → List ℕ → List ℕ
choices_after (Ok (Some k)) rules m room work choices = chosen rules (position_at room work) m ++ drop m choices
choices_after (Ok None) rules m room work choices = choices
choices_after (Err r) rules m room work choices = choices

-- what the search has found, in the slices
pub record EndContract (ws : List ℤ) (f : Result (Option ℕ) Refusal) (m room : ℕ) (out : List ℤ) (choices : List ℕ) (work out' : List ℤ) (choices' : List ℕ) (work' : List ℤ) (r : Result (Option ℕ) Refusal) : Type 0 where
  pub answer : r ≡ concluded_as f
  pub leaves : out' ≡ restored room (found_words f) (base room m) out work
  pub leaves_choices_lem : choices' ≡ choices_after f (order (table_of ws)) m room work choices
  pub leaves_work_lem : work' ≡ write_zeros (base room m + (room + 2)) work

-- the replay of checked words, where nothing is refused
pub record AcceptedContract (ws cs : List ℤ) (log : List ℕ) (room : ℕ) (out : List ℤ) (choices : List ℕ) (work out' : List ℤ) (choices' : List ℕ) (work' : List ℤ) (r : Result (Option ℕ) Refusal) : Type 0 where
  pub answer : r ≡ counted_answer (gives (replay (table_of ws) (out_limit room) log (term_of cs)))
  pub leaves : out' ≡ replay_out (gives (replay (table_of ws) (out_limit room) log (term_of cs))) out
  pub leaves_choices_lem : choices' ≡ replay_choices (gives (replay (table_of ws) (out_limit room) log (term_of cs))) choices
  pub leaves_work_lem : work' ≡ write_zeros (base room (length log) + (room + 2)) work
