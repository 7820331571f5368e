-- What the search remembers: a configuration whose search has ended may be passed over, and each turn keeps what is remembered sound.
use mathlib.Core.Path.{◌≡◌, refl, ap, sym, ◌∙◌, subst}
use mathlib.Core.Logic.{◌⊎◌, inl, inr}
use mathlib.Core.Bool.{Bool, true, false}
use mathlib.Core.Option.{Option}
use mathlib.Core.List.{List, ◌∷◌}
use Prim.Native.Nat.{ℕ, suc, pred, ◌<◌}
use native.Mathlib.Omega.{arith}
use native.Mathlib.Decide.{dec_lt}
use lib.ListN.{length, get_or, drop}
use Rattle.minuska.specs.Answer.{ReplayResult, reproduced, exceeded, not_reproduced}
use Rattle.minuska.specs.Computed.Replay.{or_later, prepend, attempt, search}
use Rattle.replay.specs.Stack.{mark, rest, resume, state, EndedAt, TriedInVain, Waits, Recalls}
use Rattle.replay.proofs.StackLaw as Stack
use Rattle.replay.proofs.StackLaw.{or_assoc, mark_exceeded, mark_not}

-- ---- over a mark
module _ {A : Type 0} where
  mark_more : (b : Bool) (x : ReplayResult A) → or_later exceeded (or_later (mark b) x) ≡ or_later exceeded x
  mark_more true (reproduced p e) = refl
  mark_more true exceeded = refl
  mark_more true not_reproduced = refl
  mark_more false x = refl

  -- what holds over a mark holds once a successor above the limit was met
  later : (b : Bool) (x y : ReplayResult A) → or_later (mark b) x ≡ or_later (mark b) y → or_later exceeded x ≡ or_later exceeded y
  later b x y h = sym (mark_more b x) ∙ ap (or_later exceeded) h ∙ mark_more b y

  -- an answer that adds nothing adds nothing behind a choice
  prepend_ended : (b : Bool) (n : ℕ) (x : ReplayResult A) → or_later (mark b) x ≡ mark b → or_later (mark b) (prepend n x) ≡ mark b
  prepend_ended true n (reproduced p e) h = cc
  prepend_ended true n exceeded h = refl
  prepend_ended true n not_reproduced h = refl
  prepend_ended false n (reproduced p e) h = cc
  prepend_ended false n exceeded h = h
  prepend_ended false n not_reproduced h = refl

  without : (b : Bool) (n : ℕ) (x r : ReplayResult A) → or_later (mark b) x ≡ mark b → or_later (mark b) (or_later (prepend n x) r) ≡ or_later (mark b) r
  without b n x r h = sym (or_assoc (mark b) (prepend n x) r) ∙ ap (λ (y : ReplayResult A). or_later y r) (prepend_ended b n x h)

module _ {A : Type 0} (size : A → ℕ) (limit : ℕ) (next : ℕ → ℕ → A → Option A) (rules log : List ℕ) where
  abbrev go : ℕ → A → ReplayResult A
  go d u = search size limit next rules (drop (suc d) log) u

  abbrev Rest : ℕ → A → ℕ → ReplayResult A
  Rest = rest size limit next rules log

  abbrev Resume : (ℕ → A) → (ℕ → ℕ) → ℕ → ReplayResult A → ReplayResult A
  Resume = resume size limit next rules log

  abbrev State : (ℕ → A) → (ℕ → ℕ) → Bool → ℕ → ReplayResult A
  State = state size limit next rules log

  abbrev Over : Bool → ℕ → A → Type 0
  Over = EndedAt size limit next rules log

  abbrev Past : Bool → ℕ → A → ℕ → Type 0
  Past = TriedInVain size limit next rules log

  abbrev Waiting : Bool → ℕ → A → ℕ → A → Type 0
  Waiting = Waits size limit next rules log

  -- a successor above the limit is met
  ended_later : (b : Bool) (d : ℕ) (u : A) → Over b d u → Over true d u
  unfolding EndedAt
  ended_later b d u h = later b (search size limit next rules (drop d log) u) not_reproduced (h ∙ sym (mark_not b))

  waits_later : (b : Bool) (d : ℕ) (t : A) (p : ℕ) (u : A) → Waiting b d t p u → Waiting true d t p u
  unfolding Waits
  waits_later b d t p u h = later b (Rest d t 0) (or_later (prepend (get_or rules (pred p) 0) (go d u)) (Rest d t p)) h

  -- a configuration that is entered; one at which no position is left
  passed_start : (b : Bool) (d : ℕ) (t : A) → Past b d t 0
  unfolding TriedInVain
  passed_start b d t = refl

  ended_from : (b : Bool) (d : ℕ) (t : A) (p : ℕ) → d < length log → Past b d t p → Rest d t p ≡ not_reproduced → Over b d t
  unfolding EndedAt TriedInVain
  ended_from b d t p l h e = ap (or_later (mark b)) (Stack.rest_all size limit next rules log d t l) ∙ h ∙ ap (or_later (mark b)) e ∙ mark_not b

  -- back: the search of the configuration above has ended
  passed_back : (b : Bool) (d : ℕ) (t : A) (p : ℕ) (u : A) → Waiting b d t p u → Over b (suc d) u → Past b d t p
  unfolding EndedAt TriedInVain Waits
  passed_back b d t p u h e = h ∙ without b (get_or rules (pred p) 0) (go d u) (Rest d t p) e

  -- ---- the rule at position q is tried
  module _ (b : Bool) (d : ℕ) (t : A) (q : ℕ) (there : q < length rules) (h : Past b d t q) where
    abbrev try : ReplayResult A
    try = attempt size limit (go d) (get_or rules q 0) (next (get_or log d 0) (get_or rules q 0) t)

    past : (x : ReplayResult A) → try ≡ x → or_later (mark b) (Rest d t 0) ≡ or_later (mark b) (or_later x (Rest d t (suc q)))
    unfolding TriedInVain
    past x e = h ∙ ap (or_later (mark b)) (Stack.rest_step size limit next rules log d t q there ∙ ap (λ (y : ReplayResult A). or_later y (Rest d t (suc q))) e)

    passed_none : try ≡ not_reproduced → Past b d t (suc q)
    unfolding TriedInVain
    passed_none e = past not_reproduced e

    passed_beyond : try ≡ exceeded → Past true d t (suc q)
    unfolding TriedInVain
    passed_beyond e = later b (Rest d t 0) (or_later exceeded (Rest d t (suc q))) (past exceeded e) ∙ mark_exceeded true (Rest d t (suc q))

    module _ (u : A) (e : try ≡ prepend (get_or rules q 0) (go d u)) where
      passed_skip : Over b (suc d) u → Past b d t (suc q)
      unfolding TriedInVain EndedAt
      passed_skip k = past (prepend (get_or rules q 0) (go d u)) e ∙ without b (get_or rules q 0) (go d u) (Rest d t (suc q)) k

      waits_down : Waiting b d t (suc q) u
      unfolding Waits
      waits_down = past (prepend (get_or rules q 0) (go d u)) e

  -- ---- the whole memory; `held` and `held'` say which configurations are held before and after
  module _ (held held' : ℕ → A → Type 0) (term term' : ℕ → A) (position position' : ℕ → ℕ) where
    abbrev Before : Bool → ℕ → Type 0
    Before = Recalls size limit next rules log held term position

    abbrev After : Bool → ℕ → Type 0
    After = Recalls size limit next rules log held' term' position'

    module _ (d q : ℕ) (tries : Stack.Tries size limit next rules log term term' position position' d q) (b : Bool) (m : Before b d) where
      abbrev rule : ℕ
      rule = get_or rules q 0

      abbrev try_rule : ReplayResult A
      try_rule = attempt size limit (go d) rule (next (get_or log d 0) rule (term d))

      terms_to : (i : ℕ) → i < suc d → term' i ≡ term i
      terms_to i h = at (dec_lt i d)
        where
          at : Dec (i < d) → term' i ≡ term i
          at (yes k) = tries.terms i k
          at (no k) = let e : d ≡ i = omega arith in subst (λ (x : ℕ). term' x ≡ term x) e tries.top

      waits_to : (c : Bool) (i : ℕ) → i < d → Waiting c i (term i) (position i) (term (suc i)) → Waiting c i (term' i) (position' i) (term' (suc i))
      waits_to c i h k = rw (terms_to i (omega arith), tries.positions i h, terms_to (suc i) (omega arith)) k

      idle : Past b d (term d) q
      unfolding TriedInVain
      idle = m.passed ∙ ap (or_later (mark b)) tries.idle.0

      on : (c : Bool) → Past c d (term d) (suc q) → Past c d (term' d) (position' d)
      on c k = rw (tries.top, tries.on) k

      pub recalls_none : ((i : ℕ) (u : A) → held' i u → held i u) → try_rule ≡ not_reproduced → After b d
      recalls_none sub e = record { passed = on b (passed_none b d (term d) q tries.there idle e); waits = λ i h. waits_to b i h (m.waits i h); ended = λ i u h. m.ended i u (sub i u h) }

      pub recalls_beyond : ((i : ℕ) (u : A) → held' i u → held i u) → try_rule ≡ exceeded → After true d
      recalls_beyond sub e =
          record {
            passed = on true (passed_beyond b d (term d) q tries.there idle e);
            waits = λ i h. waits_to true i h (waits_later b i (term i) (position i) (term (suc i)) (m.waits i h));
            ended = λ i u h. ended_later b i u (m.ended i u (sub i u h));
          }

      module _ (u : A) (e : try_rule ≡ prepend rule (go d u)) where
        -- its successor is known
        pub recalls_skip : ((i : ℕ) (v : A) → held' i v → held i v) → held (suc d) u → After b d
        recalls_skip sub k = record { passed = on b (passed_skip b d (term d) q tries.there idle u e (m.ended (suc d) u k)); waits = λ i h. waits_to b i h (m.waits i h); ended = λ i v h. m.ended i v (sub i v h) }

        lost : (x : ReplayResult A) → or_later (mark b) x ≡ mark b → or_later (mark b) (Resume term' position' d (or_later (prepend rule x) (Rest d (term' d) (position' d)))) ≡ or_later (mark b) (Resume term' position' d (Rest d (term' d) (position' d)))
        lost (reproduced p v) h = never b h
          where
            never : (c : Bool) → or_later (mark c) (reproduced p v) ≡ mark c → or_later (mark b) (Resume term' position' d (reproduced (rule ∷ p) v)) ≡ or_later (mark b) (Resume term' position' d (Rest d (term' d) (position' d)))
            never true g = cc
            never false g = cc
        lost exceeded h =
            ap (or_later (mark b)) (Stack.resume_exceeded size limit next rules log term' position' d (Rest d (term' d) (position' d)))
            ∙ marked b h (Resume term' position' d (Rest d (term' d) (position' d)))
          where
            marked : (c : Bool) → or_later (mark {A = A} c) exceeded ≡ mark c → (y : ReplayResult A) → or_later (mark c) (or_later exceeded y) ≡ or_later (mark c) y
            marked true g y = mark_exceeded true y
            marked false g y = cc
        lost not_reproduced h = refl

        pub turn_skip : held (suc d) u → State term position b d ≡ State term' position' b d
        unfolding state EndedAt
        turn_skip k = ap (or_later (mark b)) (Stack.tried size limit next rules log term term' position position' d q tries (prepend rule (go d u)) e) ∙ lost (go d u) (m.ended (suc d) u k)

        -- it is entered
        pub recalls_down : ((i : ℕ) (v : A) → held' i v → held i v) → term' (suc d) ≡ u → position' (suc d) ≡ 0 → After b (suc d)
        recalls_down sub h k = record { passed = rw k (passed_start b (suc d) (term' (suc d))); waits = λ i l. at i l (dec_lt i d); ended = λ i v l. m.ended i v (sub i v l) }
          where
            at : (i : ℕ) → i < suc d → Dec (i < d) → Waiting b i (term' i) (position' i) (term' (suc i))
            at i l (yes w) = waits_to b i w (m.waits i w)
            at i l (no w) =
                let z : d ≡ i = omega arith in
                subst (λ (x : ℕ). Waiting b x (term' x) (position' x) (term' (suc x))) z (rw (tries.top, tries.on, h) (waits_down b d (term d) q tries.there idle u e))

  -- no position is left: back, and the configuration is held
  module _ (held held' : ℕ → A → Type 0) (term : ℕ → A) (position : ℕ → ℕ) (d : ℕ) where
    pub recalls_up : ((i : ℕ) (u : A) → held' i u → held i u ⊎ ((suc d ≡ i) × (term (suc d) ≡ u))) → suc d < length log → Rest (suc d) (term (suc d)) (position (suc d)) ≡ not_reproduced
        → (b : Bool) → Recalls size limit next rules log held term position b (suc d) → Recalls size limit next rules log held' term position b d
    recalls_up sub l e b m =
        record {
          passed = passed_back b d (term d) (position d) (term (suc d)) (m.waits d (omega arith)) over;
          waits = λ i h. m.waits i (omega arith);
          ended = λ i u h. at i u (sub i u h);
        }
      where
        over : Over b (suc d) (term (suc d))
        over = ended_from b (suc d) (term (suc d)) (position (suc d)) l m.passed e

        at : (i : ℕ) (u : A) → held i u ⊎ ((suc d ≡ i) × (term (suc d) ≡ u)) → Over b i u
        at i u (inl h) = m.ended i u h
        at i u (inr h) = subst (λ (x : ℕ). Over b x u) h.0 (subst (Over b (suc d)) h.1 over)

  -- the start: nothing is held
  pub recalls_start : (held : ℕ → A → Type 0) (term : ℕ → A) (position : ℕ → ℕ) → ((i : ℕ) (u : A) → held i u → ⊥) → position 0 ≡ 0 → (b : Bool) → Recalls size limit next rules log held term position b 0
  recalls_start held term position none_held h b = record { passed = rw h (passed_start b 0 (term 0)); waits = λ i l. absurd (let f : ⊥ = omega arith in f); ended = λ i u k. absurd (none_held i u k) }
