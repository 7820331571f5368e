-- What one turn of the search promises, and the whole search, over a table and the words in the work area. `room` is 2N.
use Rattle.std.specs.Prelude.{◌≡◌, Bool, true, false, ◌⊎◌, List, ◌++◌, ℕ, suc, ◌+◌, ◌*◌, ◌≤◌, ◌<◌, ℤ, length, get_or, take, drop, Option, Some, None, Result, Ok, Err}
use Rattle.std.proofs.Math.Option.{none, some}
use Rattle.std.proofs.Math.ListN.{get_elem?}
use Rattle.minuska.specs.Term.{Term, node_count}
use Rattle.minuska.specs.Rule.{Rule, Table}
use Rattle.minuska.specs.Answer.{ReplayResult, reproduced, exceeded, not_reproduced}
use Rattle.minuska.specs.Slice.{out_limit}
use Rattle.minuska.specs.Contract.{StepByRuleContract}
use Rattle.minuska.specs.Computed.Step.{next, order}
use Rattle.minuska.specs.Bridge.Place.{Accepted}
use Rattle.minuska.specs.declared.Refusal.{Refusal}
use Rattle.minuska.specs.declared.Refusal.TheVariants.{OverLimit}
use Rattle.minuska.specs.declared.Stepped.{Stepped}
use Rattle.replay.specs.declared.search.Turned.{Turned}
use Rattle.replay.specs.declared.search.Turned.TheVariants.{On, Beyond, Made, Exhausted}
use Rattle.replay.specs.Reading.{table_of, term_of}
use Rattle.memory.specs.Layout.{base, frame_at, with_frame, length_of, position_of, words_of, OwnFits, Enters}
use Rattle.memory.specs.Memory.{Entry, Keeps, Known}
use Rattle.replay.specs.Stack.{mark, chosen, state, left, Recalls}

-- ---- the frames
abbrev pub term_at : ℕ → List ℤ → ℕ → Term
term_at room work i = term_of (words_of (frame_at room work i))

abbrev pub position_at : ℕ → List ℤ → ℕ → ℕ
position_at room work i = position_of (frame_at room work i)

-- a frame that the search may stand at: an accepted configuration, and a position in the order of rules or at its end
pub record Framed (rules : ℕ) (frame : List ℤ) : Type 0 where
  pub long : OwnFits frame
  pub accepted : Accepted (words_of frame)
  pub position : position_of frame ≤ rules

-- a frame that has tried a rule: the one before its next position
pub record Begun (rules : ℕ) (frame : List ℤ) : Type 0 where
  pub some : 0 < position_of frame
  pub within : position_of frame ≤ rules

-- the frames up to depth d; those below d have tried a rule; the configuration of any of the m frames may be looked at
pub record SoundFrames (rules room m : ℕ) (work : List ℤ) (d : ℕ) : Type 0 where
  pub frames : (i : ℕ) → i ≤ d → Framed rules (frame_at room work i)
  pub begun : (i : ℕ) → i < d → 0 < position_at room work i
  pub spare : (i : ℕ) → i < m → OwnFits (frame_at room work i)

-- what frame i holds for depth i while the search stands at depth d: its configuration, if the frame is behind d, since the search of that has ended; and what its table has
abbrev pub HeldIn : ℕ → ℕ → List ℤ → ℕ → Term → Type 0
HeldIn m d frame i u = ((d < i) × (i < m) × (0 < length_of frame) × (term_of (words_of frame) ≡ u)) ⊎ ((c : List ℤ) × (0 < i) × (i < m) × Entry frame c × (term_of c ≡ u))

abbrev pub Held : ℕ → ℕ → List ℤ → ℕ → ℕ → Term → Type 0
Held room m work d i u = HeldIn m d (frame_at room work i) i u

-- what the search will say that stands at depth d, with whether a successor above the limit was met; and the turns that it has left
unfoldable pub state_of : Table → ℕ → List ℕ → List ℤ → Bool → ℕ → ReplayResult Term
state_of t room log work over d = state node_count (out_limit room) (next t) (order t) log (term_at room work) (position_at room work) over d

-- the memory is sound, with whether a successor above the limit was met
abbrev pub MemoryOf : Table → ℕ → List ℕ → List ℤ → Bool → ℕ → Type 0
MemoryOf t room log work over d = Recalls node_count (out_limit room) (next t) (order t) log (Held room (length log) work d) (term_at room work) (position_at room work) over d

unfoldable pub left_of : Table → ℕ → List ℕ → List ℤ → ℕ → ℕ
left_of t room log work d = left (next t) (order t) log (term_at room work) (position_at room work) (suc d)

-- ---- what the search asks of the slices that are lent for it. No struct of the two holds this: lent by `&mut` at each turn, it would have every contract say, in place of this
-- clause, that both references and the search are still the same.
pub record SlicesFit (room : ℕ) (log : List ℕ) (out work : List ℤ) : Type 0 where
  pub out_fits : room ≤ length out
  pub work_fits : length log * (room + 2) + (room + 2) ≤ length work

-- what it keeps: the words of out behind `room`, and those of the work area from the last frame on
pub record Kept (room depth : ℕ) (out work out' work' : List ℤ) : Type 0 where
  pub long : length work' ≡ length work
  pub work_kept : drop (base room depth) work' ≡ drop (base room depth) work
  pub wide : length out' ≡ length out
  pub out_kept : drop room out' ≡ drop room out

-- rule n carries an action
pub record Carries (t : Table) (a n : ℕ) : Type 0 where
  pub rule : Rule
  pub named : get_elem? t n ≡ some rule
  pub acts : rule.action ≡ a

-- the rules at the positions from one up to another give nothing under the action
abbrev pub Skipped : Table → ℕ → ℕ → ℕ → Type 0
Skipped t a from to = (q : ℕ) → from ≤ q → q < to → (g : Term) → next t a (get_or (order t) q 0) g ≡ none

-- the first position from one on whose rule carries the action
pub record Sought (t : Table) (rules a from q : ℕ) : Type 0 where
  pub above : from ≤ q
  pub within : q < rules
  pub skipped : Skipped t a from q
  pub carried : Carries t a (get_or (order t) q 0)

-- the step by rule n, its successor made in the first `room` words of out
pub record TryContract (ws cs : List ℤ) (n room : ℕ) (out out' : List ℤ) (r : Result (Option Stepped) Refusal) : Type 0 where
  pub front : List ℤ
  pub steps : StepByRuleContract ws cs n (take room out) front r
  pub leaves : out' ≡ front ++ drop room out

-- ---- what a rule's answer comes to at depth d of a log of m actions: a successor fits its room; the turn's answer; the work area
abbrev pub MadeWithin : Result (Option Stepped) Refusal → ℕ → ℕ → Type 0
MadeWithin (Ok (Some s)) room out = (0 < s.nodes) × (2 * s.nodes ≤ room) × (2 * s.nodes ≤ out)
MadeWithin (Ok None) room out = Unit {0}
MadeWithin (Err r) room out = Unit {0}

-- the next frame anew, with a configuration c; its table has nothing but what the frame remembered before
pub record Entered (room : ℕ) (work work' : List ℤ) (d : ℕ) (c : List ℤ) : Type 0 where
  pub frame : List ℤ
  pub is : work' ≡ with_frame room work d frame
  pub enters : Enters (frame_at room work d) frame c
  pub keeps : Keeps (frame_at room work d) frame

-- a successor, so many words of out: it is entered; or passed over, since it is known and the search remembers; or the last
abbrev pub Descends : ℕ → ℕ → ℕ → Bool → ℕ → List ℤ → List ℤ → List ℤ → Turned → Type 0
Descends k m room remember d out work work' r =
    ((d + 1 < m) × (r ≡ On (d + 1)) × Entered room work work' (d + 1) (take k out)) ⊎ ((d + 1 < m) × (r ≡ On d) × (work' ≡ work) × (remember ≡ true) × Known (frame_at room work (d + 1)) (take k out)) ⊎ ((m ≤ d + 1) × (r ≡ Made k) × (work' ≡ work))

abbrev pub Settles : Result (Option Stepped) Refusal → ℕ → ℕ → Bool → ℕ → List ℤ → List ℤ → List ℤ → Turned → Type 0
Settles (Ok (Some s)) m room remember d out work work' r = Descends (2 * s.nodes) m room remember d out work work' r
Settles (Ok None) m room remember d out work work' r = (r ≡ On d) × (work' ≡ work)
Settles (Err x) m room remember d out work work' r = (r ≡ Beyond) × (work' ≡ work)

-- ---- a path is found: k words of out are its last configuration, and each frame has tried a rule
pub record Finds (rules room : ℕ) (log : List ℕ) (out work : List ℤ) (k : ℕ) : Type 0 where
  pub fits : k ≤ room
  pub accepted : Accepted (take k out)
  pub begun : (i : ℕ) → i < length log → Begun rules (frame_at room work i)

abbrev pub found : Table → ℕ → List ℕ → List ℤ → List ℤ → ℕ → ReplayResult Term
found t room log out work k = reproduced (chosen (order t) (position_at room work) (length log)) (term_of (take k out))

-- ---- one turn at depth d: the search will say what it would have said, for each mark at which its memory is sound, and has fewer turns left
abbrev pub Same : Table → ℕ → List ℕ → ℕ → List ℤ → ℕ → List ℤ → Type 0
Same t room log d work e work' = (b : Bool) → MemoryOf t room log work b d → (state_of t room log work b d ≡ state_of t room log work' b e) × MemoryOf t room log work' b e

abbrev pub Marks : Table → ℕ → List ℕ → ℕ → List ℤ → List ℤ → Type 0
Marks t room log d work work' = (b : Bool) → MemoryOf t room log work b d → (state_of t room log work b d ≡ state_of t room log work' true d) × MemoryOf t room log work' true d

abbrev pub TurnSays : Table → ℕ → ℕ → List ℕ → ℕ → List ℤ → List ℤ → List ℤ → Turned → Type 0
TurnSays t rules room log d work out' work' (On e) =
    (e < length log) × SoundFrames rules room (length log) work' e × Same t room log d work e work' × (left_of t room log work' e < left_of t room log work d)
TurnSays t rules room log d work out' work' Beyond =
    SoundFrames rules room (length log) work' d × Marks t room log d work work' × (left_of t room log work' d < left_of t room log work d)
TurnSays t rules room log d work out' work' (Made k) =
    Finds rules room log out' work' k × ((b : Bool) → state_of t room log work b d ≡ found t room log out' work' k)
TurnSays t rules room log d work out' work' Exhausted = (b : Bool) → state_of t room log work b d ≡ mark b

pub record TurnContract (ws : List ℤ) (rules room : ℕ) (log : List ℕ) (d : ℕ) (out work out' work' : List ℤ) (r : Turned) : Type 0 where
  pub kept : Kept room (length log) out work out' work'
  pub says : TurnSays (table_of ws) rules room log d work out' work' r

-- ---- the whole search, from depth 0: a path, whose last configuration is so many words of out; none; or none, and a successor above the limit was met
abbrev pub SearchSays : Table → ℕ → ℕ → List ℕ → List ℤ → List ℤ → List ℤ → Result (Option ℕ) Refusal → Type 0
SearchSays t rules room log work out' work' (Ok (Some k)) =
    Finds rules room log out' work' k × (state_of t room log work false 0 ≡ found t room log out' work' k)
SearchSays t rules room log work out' work' (Ok None) = state_of t room log work false 0 ≡ not_reproduced
SearchSays t rules room log work out' work' (Err r) = (r ≡ OverLimit) × (state_of t room log work false 0 ≡ exceeded)

pub record SearchContract (ws : List ℤ) (rules room : ℕ) (log : List ℕ) (out work out' work' : List ℤ) (r : Result (Option ℕ) Refusal) : Type 0 where
  pub kept : Kept room (length log) out work out' work'
  pub says : SearchSays (table_of ws) rules room log work out' work' r
