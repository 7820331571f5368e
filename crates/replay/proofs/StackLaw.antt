-- The search as a loop: each turn keeps what the search will say, and lowers the turns that it has left.
use mathlib.Core.Path.{◌≡◌, refl, ap, ap₂, sym, ◌∙◌}
use mathlib.Core.List.{List, [], ◌∷◌, ◌++◌, append_assoc, append-nil}
use mathlib.Core.Bool.{Bool, true, false}
use mathlib.Core.Option.{Option, none, some}
use Prim.Native.Nat.{ℕ, zero, suc, pred, ◌+◌, ◌-◌, ◌≤◌, ◌<◌}
use native.Mathlib.Omega.{arith}
use native.Mathlib.Numerals.{add-one}
use lib.Dec.{leb}
use lib.ListN.{length, get_or, drop, set, length-append, drop_of_length-le}
use lib.Seq.{drop-cons, set_at}
use Rattle.minuska.specs.Answer.{ReplayResult, reproduced, exceeded, not_reproduced}
use Rattle.minuska.specs.Computed.Replay.{or_later, prepend, try_all, attempt, search}
use Rattle.replay.specs.Stack.{mark, chosen, rest, resume, state, below, turns_at, turns, owed, left}

module _ {A : Type 0} where
  pub or_assoc : (x y z : ReplayResult A) → or_later (or_later x y) z ≡ or_later x (or_later y z)
  or_assoc (reproduced p e) y z = refl
  or_assoc exceeded (reproduced p e) z = refl
  or_assoc exceeded exceeded (reproduced p e) = refl
  or_assoc exceeded exceeded exceeded = refl
  or_assoc exceeded exceeded not_reproduced = refl
  or_assoc exceeded not_reproduced z = refl
  or_assoc not_reproduced y z = refl

  prepend_exceeded : (n : ℕ) (x : ReplayResult A) → prepend n (or_later exceeded x) ≡ or_later exceeded (prepend n x)
  prepend_exceeded n (reproduced p e) = refl
  prepend_exceeded n exceeded = refl
  prepend_exceeded n not_reproduced = refl

  pub mark_exceeded : (b : Bool) (x : ReplayResult A) → or_later (mark b) (or_later exceeded x) ≡ or_later (mark true) x
  mark_exceeded true (reproduced p e) = refl
  mark_exceeded true exceeded = refl
  mark_exceeded true not_reproduced = refl
  mark_exceeded false x = refl

  mark_reproduced : (b : Bool) (p : List ℕ) (e : A) → or_later (mark b) (reproduced p e) ≡ reproduced p e
  mark_reproduced true p e = refl
  mark_reproduced false p e = refl

  pub mark_not : (b : Bool) → or_later (mark b) not_reproduced ≡ mark {A = A} b
  mark_not true = refl
  mark_not false = refl

-- ---- the choices
module _ (rules : List ℕ) (f : ℕ → ℕ) where
  pub chosen_long : (d : ℕ) → length (chosen rules f d) ≡ d
  chosen_long zero = refl
  chosen_long (suc d) = length-append (chosen rules f d) (get_or rules (pred (f d)) 0 ∷ []) ∙ ap (λ (k : ℕ). k + 1) (chosen_long d) ∙ add-one d

  -- a store of the next choice
  pub chosen_more : (i : ℕ) (p : List ℕ) → i < length p → set (chosen rules f i ++ drop i p) i (get_or rules (pred (f i)) 0) ≡ chosen rules f (suc i) ++ drop (suc i) p
  chosen_more i p h =
      ap (λ (t : List ℕ). set (chosen rules f i ++ t) i (get_or rules (pred (f i)) 0)) (drop-cons p i 0 h)
      ∙ set_at (chosen rules f i) (get_or p i 0) (drop (suc i) p) (get_or rules (pred (f i)) 0) i (chosen_long i)
      ∙ sym (append_assoc (chosen rules f i) (get_or rules (pred (f i)) 0 ∷ []) (drop (suc i) p))

module _ {A : Type 0} (size : A → ℕ) (limit : ℕ) (next : ℕ → ℕ → A → Option A) (rules log : List ℕ) where
  abbrev go : ℕ → A → ReplayResult A
  go d u = search size limit next rules (drop (suc d) log) u

  abbrev try : ℕ → A → ℕ → ReplayResult A
  try d t n = attempt size limit (go d) n (next (get_or log d 0) n t)

  abbrev Rest : ℕ → A → ℕ → ReplayResult A
  Rest = rest size limit next rules log

  abbrev Owed : ℕ → A → ℕ → ℕ
  Owed = owed next rules log

  abbrev Turns : ℕ → A → ℕ
  Turns d = turns next rules (drop (suc d) log)

  abbrev Resume : (ℕ → A) → (ℕ → ℕ) → ℕ → ReplayResult A → ReplayResult A
  Resume = resume size limit next rules log

  abbrev State : (ℕ → A) → (ℕ → ℕ) → Bool → ℕ → ReplayResult A
  State = state size limit next rules log

  abbrev Left : (ℕ → A) → (ℕ → ℕ) → ℕ → ℕ
  Left = left next rules log

  -- ---- the positions at one configuration
  pub rest_step : (d : ℕ) (t : A) (p : ℕ) → p < length rules → Rest d t p ≡ or_later (try d t (get_or rules p 0)) (Rest d t (suc p))
  unfolding rest
  rest_step d t p h = ap (try_all (try d t)) (drop-cons rules p 0 h)

  rest_end : (d : ℕ) (t : A) (p : ℕ) → length rules ≤ p → Rest d t p ≡ not_reproduced
  unfolding rest
  rest_end d t p h = ap (try_all (try d t)) (drop_of_length-le rules h)

  pub rest_all : (d : ℕ) (t : A) → d < length log → search size limit next rules (drop d log) t ≡ Rest d t 0
  unfolding rest
  rest_all d t h = ap (λ (l : List ℕ). search size limit next rules l t) (drop-cons log d 0 h)

  owed_step : (d : ℕ) (t : A) (p : ℕ) → p < length rules → Owed d t p ≡ suc (below (Turns d) (next (get_or log d 0) (get_or rules p 0) t) + Owed d t (suc p))
  unfolding owed
  owed_step d t p h = ap (turns_at (Turns d) (λ n. next (get_or log d 0) n t)) (drop-cons rules p 0 h)

  turns_some : (f : A → ℕ) (o : ℕ → Option A) (ns : List ℕ) → 0 < turns_at f o ns
  turns_some f o [] = omega arith
  turns_some f o (n ∷ ns) = omega arith

  owed_some : (d : ℕ) (t : A) (p : ℕ) → 0 < Owed d t p
  unfolding owed
  owed_some d t p = turns_some (Turns d) (λ n. next (get_or log d 0) n t) (drop p rules)

  owed_all : (d : ℕ) (t : A) → d < length log → turns next rules (drop d log) t ≡ Owed d t 0
  unfolding owed
  owed_all d t h = ap (λ (l : List ℕ). turns next rules l t) (drop-cons log d 0 h)

  -- positions that give nothing are passed over
  module _ (d : ℕ) (t : A) where
    abbrev Idle : ℕ → ℕ → Type 0
    Idle p k = (q : ℕ) → p ≤ q → q < p + k → next (get_or log d 0) (get_or rules q 0) t ≡ none

    skip : (k p : ℕ) → p + k ≤ length rules → Idle p k → (Rest d t p ≡ Rest d t (p + k)) × (Owed d t (p + k) ≤ Owed d t p)
    skip zero p h f =
        let e : p + 0 ≡ p = omega arith in
        rw e (refl, omega arith)
    skip (suc k) p h f =
        let i = skip k (suc p) (omega arith) (λ q a b. f q (omega arith) (omega arith)) in
        let e : suc p + k ≡ p + suc k = omega arith in
        let z : next (get_or log d 0) (get_or rules p 0) t ≡ none = f p (omega arith) (omega arith) in
        rw (← e) (
          rest_step d t p (omega arith) ∙ ap (λ (o : Option A). or_later (attempt size limit (go d) (get_or rules p 0) o) (Rest d t (suc p))) z ∙ i.0,
          omega (arith, owed_step d t p (omega arith), i.1),
        )

    pub skipped : (p q : ℕ) → p ≤ q → q ≤ length rules → ((i : ℕ) → p ≤ i → i < q → next (get_or log d 0) (get_or rules i 0) t ≡ none) → (Rest d t p ≡ Rest d t q) × (Owed d t q ≤ Owed d t p)
    skipped p q h k f =
        let e : p + (q - p) ≡ q = omega arith in
        rw e at (skip (q - p) p (omega arith) (λ i a b. f i a (omega arith)))

    pub exhausted : (p : ℕ) → p ≤ length rules → ((i : ℕ) → p ≤ i → i < length rules → next (get_or log d 0) (get_or rules i 0) t ≡ none) → Rest d t p ≡ not_reproduced
    exhausted p h f = (skipped p (length rules) h (omega arith) f).0 ∙ rest_end d t (length rules) (omega arith)

  -- ---- the stack
  pub resume_exceeded : (term : ℕ → A) (position : ℕ → ℕ) (d : ℕ) (x : ReplayResult A) → Resume term position d (or_later exceeded x) ≡ or_later exceeded (Resume term position d x)
  unfolding resume
  resume_exceeded term position zero x = refl
  resume_exceeded term position (suc d) x =
      let n : ℕ = get_or rules (pred (position d)) 0 in
      let r : ReplayResult A = Rest d (term d) (position d) in
      ap (λ (y : ReplayResult A). Resume term position d (or_later y r)) (prepend_exceeded n x)
      ∙ ap (Resume term position d) (or_assoc exceeded (prepend n x) r)
      ∙ resume_exceeded term position d (or_later (prepend n x) r)

  resume_reproduced : (term : ℕ → A) (position : ℕ → ℕ) (d : ℕ) (p : List ℕ) (e : A) → Resume term position d (reproduced p e) ≡ reproduced (chosen rules position d ++ p) e
  unfolding resume
  resume_reproduced term position zero p e = refl
  resume_reproduced term position (suc d) p e =
      let n : ℕ = get_or rules (pred (position d)) 0 in
      resume_reproduced term position d (n ∷ p) e ∙ ap (λ (l : List ℕ). reproduced l e) (sym (append_assoc (chosen rules position d) (n ∷ []) p))

  -- no position is left: back to the frame below, or the end
  module _ (term : ℕ → A) (position : ℕ → ℕ) where
    pub turn_up : (b : Bool) (d : ℕ) → Rest (suc d) (term (suc d)) (position (suc d)) ≡ not_reproduced → State term position b (suc d) ≡ State term position b d
    unfolding state resume
    turn_up b d h = ap (λ (x : ReplayResult A). or_later (mark b) (Resume term position (suc d) x)) h

    pub turn_end : (b : Bool) → Rest 0 (term 0) (position 0) ≡ not_reproduced → State term position b 0 ≡ mark b
    unfolding state resume
    turn_end b h = ap (λ (x : ReplayResult A). or_later (mark b) x) h ∙ mark_not b

    pub left_up : (d : ℕ) → Left term position (suc d) < Left term position (suc (suc d))
    unfolding left
    left_up d = omega (arith, owed_some (suc d) (term (suc d)) (position (suc d)))

    pub start : (t : A) → 0 < length log → term 0 ≡ t → position 0 ≡ 0 → State term position false 0 ≡ search size limit next rules log t
    unfolding state resume
    start t l h k = ap₂ (Rest 0) h k ∙ sym (rest_all 0 t l)

  module _ (term term' : ℕ → A) (position position' : ℕ → ℕ) where
    resume_same : (d : ℕ) → ((i : ℕ) → i < d → term' i ≡ term i) → ((i : ℕ) → i < d → position' i ≡ position i) → (x : ReplayResult A) → Resume term' position' d x ≡ Resume term position d x
    unfolding resume
    resume_same zero ht hp x = refl
    resume_same (suc d) ht hp x =
        resume_same d (λ i h. ht i (omega arith)) (λ i h. hp i (omega arith)) (or_later (prepend (get_or rules (pred (position' d)) 0) x) (Rest d (term' d) (position' d)))
        ∙ ap₂ (λ (t : A) (p : ℕ). Resume term position d (or_later (prepend (get_or rules (pred p) 0) x) (Rest d t p))) (ht d (omega arith)) (hp d (omega arith))

    left_same : (d : ℕ) → ((i : ℕ) → i < d → term' i ≡ term i) → ((i : ℕ) → i < d → position' i ≡ position i) → Left term' position' d ≡ Left term position d
    unfolding left
    left_same zero ht hp = refl
    left_same (suc d) ht hp = ap₂ ◌+◌ (left_same d (λ i h. ht i (omega arith)) (λ i h. hp i (omega arith))) (ap₂ (Owed d) (ht d (omega arith)) (hp d (omega arith)))

    -- A TURN AT DEPTH d TRIES THE RULE AT POSITION q: the positions before it give nothing, the frames below d stay, the frame at d goes on behind q
    pub record Tries (d q : ℕ) : Type 0 where
      pub terms : (i : ℕ) → i < d → term' i ≡ term i
      pub positions : (i : ℕ) → i < d → position' i ≡ position i
      pub top : term' d ≡ term d
      pub on : position' d ≡ suc q
      pub there : q < length rules
      pub idle : (Rest d (term d) (position d) ≡ Rest d (term d) q) × (Owed d (term d) q ≤ Owed d (term d) (position d))

    module _ (d q : ℕ) (tries : Tries d q) where
      abbrev rule : ℕ
      rule = get_or rules q 0

      pub tried : (x : ReplayResult A) → try d (term d) rule ≡ x → Resume term position d (Rest d (term d) (position d)) ≡ Resume term' position' d (or_later x (Rest d (term' d) (position' d)))
      tried x e =
          ap (Resume term position d) (tries.idle.0 ∙ rest_step d (term d) q tries.there ∙ ap₂ or_later e (sym (ap₂ (Rest d) tries.top tries.on)))
          ∙ sym (resume_same d tries.terms tries.positions (or_later x (Rest d (term' d) (position' d))))

      -- the rule gives nothing
      pub turn_none : (b : Bool) → next (get_or log d 0) rule (term d) ≡ none → State term position b d ≡ State term' position' b d
      unfolding state
      turn_none b e = ap (or_later (mark b)) (tried not_reproduced (ap (attempt size limit (go d) rule) e))

      pub attempted : (u : A) (b : Bool) → next (get_or log d 0) rule (term d) ≡ some u → leb (size u) limit ≡ b → try d (term d) rule ≡ elim b as (λ (y : Bool). ReplayResult A) [ true ↦ prepend rule (go d u) | false ↦ exceeded ]
      attempted u b e g = ap (attempt size limit (go d) rule) e ∙ ap (λ (x : Bool). elim x as (λ (y : Bool). ReplayResult A) [ true ↦ prepend rule (go d u) | false ↦ exceeded ]) g

      -- its successor is above the limit
      pub turn_beyond : (b : Bool) (u : A) → next (get_or log d 0) rule (term d) ≡ some u → leb (size u) limit ≡ false → State term position b d ≡ State term' position' true d
      unfolding state
      turn_beyond b u e g =
          ap (or_later (mark b)) (tried exceeded (attempted u false e g) ∙ resume_exceeded term' position' d (Rest d (term' d) (position' d)))
          ∙ mark_exceeded b (Resume term' position' d (Rest d (term' d) (position' d)))

      within : (u : A) → next (get_or log d 0) rule (term d) ≡ some u → leb (size u) limit ≡ true → Resume term position d (Rest d (term d) (position d)) ≡ Resume term' position' (suc d) (go d u)
      unfolding resume
      within u e g =
          tried (prepend rule (go d u)) (attempted u true e g)
          ∙ ap (λ (p : ℕ). Resume term' position' d (or_later (prepend (get_or rules p 0) (go d u)) (Rest d (term' d) (position' d)))) (sym (ap pred tries.on))

      -- its successor is entered
      pub turn_down : (b : Bool) (u : A) → next (get_or log d 0) rule (term d) ≡ some u → leb (size u) limit ≡ true → suc d < length log → term' (suc d) ≡ u → position' (suc d) ≡ 0 → State term position b d ≡ State term' position' b (suc d)
      unfolding state
      turn_down b u e g l h k = ap (or_later (mark b)) (within u e g ∙ ap (Resume term' position' (suc d)) (rest_all (suc d) u l ∙ sym (ap₂ (Rest (suc d)) h k)))

      -- its successor is the last
      pub turn_made : (b : Bool) (u : A) → next (get_or log d 0) rule (term d) ≡ some u → leb (size u) limit ≡ true → length log ≤ suc d → State term position b d ≡ reproduced (chosen rules position' (suc d)) u
      unfolding state
      turn_made b u e g l =
          ap (or_later (mark b))
          (within u e g
          ∙ ap (λ (m : List ℕ). Resume term' position' (suc d) (search size limit next rules m u)) (drop_of_length-le log l)
          ∙ resume_reproduced term' position' (suc d) [] u
          ∙ ap (λ (m : List ℕ). reproduced m u) (append-nil (chosen rules position' (suc d))))
          ∙ mark_reproduced b (chosen rules position' (suc d)) u

      owed_less : (m : ℕ) → below (Turns d) (next (get_or log d 0) rule (term d)) ≡ m → Left term' position' (suc d) + m < Left term position (suc d)
      unfolding left
      owed_less m e =
          let p : Left term' position' d ≡ Left term position d = left_same d tries.terms tries.positions in
          let r : Owed d (term' d) (position' d) ≡ Owed d (term d) (suc q) = ap₂ (Owed d) tries.top tries.on in
          omega (arith, owed_step d (term d) q tries.there, tries.idle.1)

      pub left_try : Left term' position' (suc d) < Left term position (suc d)
      left_try = omega (arith, owed_less (below (Turns d) (next (get_or log d 0) rule (term d))) refl)

      pub left_down : (u : A) → next (get_or log d 0) rule (term d) ≡ some u → suc d < length log → term' (suc d) ≡ u → position' (suc d) ≡ 0 → Left term' position' (suc (suc d)) < Left term position (suc d)
      left_down u e l h k =
          let z : Owed (suc d) (term' (suc d)) (position' (suc d)) ≡ turns next rules (drop (suc d) log) u = ap₂ (Owed (suc d)) h k ∙ sym (owed_all (suc d) u l) in
          let y : Left term' position' (suc (suc d)) ≡ Left term' position' (suc d) + Owed (suc d) (term' (suc d)) (position' (suc d)) = unfold left in refl in
          omega (arith, owed_less (turns next rules (drop (suc d) log) u) (ap (below (Turns d)) e))
