-- minuska's search as a loop over a stack of frames. Frame i stands at depth i of the log: a configuration, and the next position to try in the order of rules.
-- The frames are two functions of the depth, `term` and `position`, so that any layout in memory serves.
use Rattle.std.specs.Prelude.{◌≡◌, Bool, true, false, List, [], ◌∷◌, ◌++◌, ℕ, zero, suc, pred, ◌+◌, ◌<◌, get_or, drop}
use Rattle.std.proofs.Math.Option.{Option, none, some}
use Rattle.minuska.specs.Answer.{ReplayResult, exceeded, not_reproduced}
use Rattle.minuska.specs.Computed.Replay.{or_later, prepend, try_all, attempt, search}

-- what a search says that finds nothing more: whether a successor above the limit was met
abbrev pub mark : {A : Type 0} → Bool → ReplayResult A
mark true = exceeded
mark false = not_reproduced

-- the rules that led to depth d: each stands before the next position to try
abbrev pub chosen : List ℕ → (ℕ → ℕ) → ℕ → List ℕ
chosen rules position zero = []
chosen rules position (suc d) = chosen rules position d ++ (get_or rules (pred (position d)) 0 ∷ [])

module _ {A : Type 0} (size : A → ℕ) (limit : ℕ) (next : ℕ → ℕ → A → Option A) (rules log : List ℕ) where
  -- the answer at depth d, from a configuration and a position on
  unfoldable pub rest : ℕ → A → ℕ → ReplayResult A
  rest d t p = try_all (λ n. attempt size limit (λ u. search size limit next rules (drop (suc d) log) u) n (next (get_or log d 0) n t)) (drop p rules)

  -- the answer of the whole, given the answer x of what was entered at depth d
  unfoldable pub resume : (ℕ → A) → (ℕ → ℕ) → ℕ → ReplayResult A → ReplayResult A
  resume term position zero x = x
  resume term position (suc d) x = resume term position d (or_later (prepend (get_or rules (pred (position d)) 0) x) (rest d (term d) (position d)))

  -- what a search will say that stands at depth d
  unfoldable pub state : (ℕ → A) → (ℕ → ℕ) → Bool → ℕ → ReplayResult A
  state term position over d = or_later (mark over) (resume term position d (rest d (term d) (position d)))

  -- ---- what the search remembers, over a mark: whether a successor above the limit was met
  -- the search from depth d at u gave no list, and what it met above the limit is marked
  unfoldable pub EndedAt : Bool → ℕ → A → Type 0
  EndedAt over d u = or_later (mark over) (search size limit next rules (drop d log) u) ≡ mark over

  -- what was tried at depth d before position p adds nothing
  unfoldable pub TriedInVain : Bool → ℕ → A → ℕ → Type 0
  TriedInVain over d t p = or_later (mark over) (rest d t 0) ≡ or_later (mark over) (rest d t p)

  -- the rule before position p, tried last, led to u: what was tried before it adds nothing
  unfoldable pub Waits : Bool → ℕ → A → ℕ → A → Type 0
  Waits over d t p u = or_later (mark over) (rest d t 0) ≡ or_later (mark over) (or_later (prepend (get_or rules (pred p) 0) (search size limit next rules (drop (suc d) log) u)) (rest d t p))

  -- a search at depth d that holds some configurations, each for a depth
  pub record Recalls (held : ℕ → A → Type 0) (term : ℕ → A) (position : ℕ → ℕ) (over : Bool) (d : ℕ) : Type 0 where
    pub passed : TriedInVain over d (term d) (position d)
    pub waits : (i : ℕ) → i < d → Waits over i (term i) (position i) (term (suc i))
    pub ended : (i : ℕ) (u : A) → held i u → EndedAt over i u

-- the turns left: below a successor; at some rules
abbrev pub below : {A : Type 0} → (A → ℕ) → Option A → ℕ
below f none = 0
below f (some u) = f u

abbrev pub turns_at : {A : Type 0} → (A → ℕ) → (ℕ → Option A) → List ℕ → ℕ
turns_at f o [] = 1
turns_at f o (n ∷ ns) = suc (below f (o n) + turns_at f o ns)

module _ {A : Type 0} (next : ℕ → ℕ → A → Option A) (rules : List ℕ) where
  -- below a configuration
  abbrev pub turns : List ℕ → A → ℕ
  turns [] t = 0
  turns (a ∷ l) t = turns_at (turns l) (λ n. next a n t) rules

  module _ (log : List ℕ) where
    -- at depth d, from a configuration and a position on
    unfoldable pub owed : ℕ → A → ℕ → ℕ
    owed d t p = turns_at (turns (drop (suc d) log)) (λ n. next (get_or log d 0) n t) (drop p rules)

    -- in the frames below d
    unfoldable pub left : (ℕ → A) → (ℕ → ℕ) → ℕ → ℕ
    left term position zero = 0
    left term position (suc d) = left term position d + owed d (term d) (position d)
