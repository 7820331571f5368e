-- DEMAND 2, THE RUN: it is the step repeated, with its true count, and no other answer is.
use mathlib.Core.Path.{◌≡◌, refl, sym, ◌∙◌, ap, subst, subst⁻¹}
use mathlib.Core.Option.{some-injective}
use Prim.Native.Nat.{ℕ, zero, suc, ◌≤◌, ◌<◌}
use native.Mathlib.Omega.{arith}
use lib.Dec.{T}
use Rattle.minuska.specs.Term.{Term, node_count}
use Rattle.minuska.specs.Rule.{Table, ok_table}
use Rattle.minuska.specs.Rewriting.{RewritesBy, First, Applies, NextAbove, Stuck}
use Rattle.minuska.specs.Answer.{StepResult, stepped, stuck, too_large, Ending, ends_stuck, ends_spent, ends_over, RunResult}
use Rattle.minuska.specs.Claim.{Leads, RunClaim}
use Rattle.minuska.specs.Computed.Step.{step}
use Rattle.minuska.specs.Computed.Run.{last_turn, turn, run}
use Rattle.minuska.proofs.Tests.{exactly}
use Rattle.minuska.proofs.StepLaw.{first_iff, step_meets}

module _ (table : Table) (x : T (ok_table table)) (limit : ℕ) where
  -- what an ending says after k of b steps, at a configuration
  abbrev Ends : ℕ → ℕ → Term → Ending → Type 0
  Ends b k h ends_stuck = Stuck table h
  Ends b k h ends_spent = (k ≡ b) × Applies table h
  Ends b k h ends_over = (k < b) × NextAbove table limit h

  not_stuck_lem : (h : Term) (n a : ℕ) (u : Term) → RewritesBy table a n h u → Stuck table h → ⊥
  not_stuck_lem h n a u w f = f n w.rule w.valuation u w.numbered w.relates

  -- at most one ending
  one_ending : (b k : ℕ) (h : Term) (e f : Ending) → Ends b k h e → Ends b k h f → e ≡ f
  one_ending b k h ends_stuck ends_stuck p q = refl
  one_ending b k h ends_stuck ends_spent p q = absurd (not_stuck_lem h q.1.0 q.1.1 q.1.2 q.1.3 p)
  one_ending b k h ends_stuck ends_over p q = absurd (not_stuck_lem h q.1.0 q.1.1 q.1.2 q.1.3.rewrites p)
  one_ending b k h ends_spent ends_stuck p q = absurd (not_stuck_lem h p.1.0 p.1.1 p.1.2 p.1.3 q)
  one_ending b k h ends_spent ends_spent p q = refl
  one_ending b k h ends_spent ends_over p q = absurd (let i = p.0 in let j = q.0 in let f : ⊥ = omega arith in f)
  one_ending b k h ends_over ends_stuck p q = absurd (not_stuck_lem h p.1.0 p.1.1 p.1.2 p.1.3.rewrites q)
  one_ending b k h ends_over ends_spent p q = absurd (let i = p.0 in let j = q.0 in let f : ⊥ = omega arith in f)
  one_ending b k h ends_over ends_over p q = refl

  abbrev Says : ℕ → Term → RunResult → Type 0
  Says b g r = Leads table limit r.steps g r.last × (r.steps ≤ b) × Ends b r.steps r.last r.ending

  claim_of : (b : ℕ) (g : Term) (r : RunResult) → Says b g r → RunClaim table limit b g r
  claim_of b g r s =
      let i = exactly (Ends b r.steps r.last) r.ending s.2 (λ f q. one_ending b r.steps r.last r.ending f s.2 q) in
      record { leads = s.0; counts = s.1; sticks = i ends_stuck; spends = i ends_spent; exceeds = i ends_over }

  of_claim : (b : ℕ) (g : Term) (r : RunResult) → RunClaim table limit b g r → Says b g r
  of_claim b g r c = (c.leads, c.counts, pick r.ending refl)
    where
      pick : (e : Ending) → r.ending ≡ e → Ends b r.steps r.last r.ending
      pick ends_stuck p = subst⁻¹ (Ends b r.steps r.last) p (c.sticks.0 p)
      pick ends_spent p = subst⁻¹ (Ends b r.steps r.last) p (c.spends.0 p)
      pick ends_over p = subst⁻¹ (Ends b r.steps r.last) p (c.exceeds.0 p)

  more : (b k : ℕ) (h : Term) (e : Ending) → Ends b k h e → Ends (suc b) (suc k) h e
  more b k h ends_stuck p = p
  more b k h ends_spent p = (ap suc p.0, p.1)
  more b k h ends_over p = (let y = p.0 in omega arith, p.1)

  less : (b k : ℕ) (h : Term) (e : Ending) → Ends (suc b) (suc k) h e → Ends b k h e
  less b k h ends_stuck p = p
  less b k h ends_spent p = (let y = p.0 in omega arith, p.1)
  less b k h ends_over p = (let y = p.0 in omega arith, p.1)

  says : (b : ℕ) (g : Term) → Says b g (run table limit b g)
  unfolding run
  says zero g = pick (step table limit g) refl
    where
      pick : (y : StepResult) → step table limit g ≡ y → Says zero g (last_turn g y)
      pick (stepped n a h) e = let f = ((step_meets table x limit g).steps n a h).0 e in (refl, omega arith, (refl, (n, a, h, f.0.rewrites)))
      pick stuck e = (refl, omega arith, (step_meets table x limit g).sticks.0 e)
      pick too_large e = let f = (step_meets table x limit g).refuses.0 e in (refl, omega arith, (refl, (f.0, f.1, f.2, f.3.rewrites)))
  says (suc b) g = pick (step table limit g) refl (λ u. says b u)
    where
      pick : (y : StepResult) → step table limit g ≡ y → ((u : Term) → Says b u (run table limit b u)) → Says (suc b) g (turn g (λ h. run table limit b h) y)
      pick (stepped n a h) e ih =
          let f = ((step_meets table x limit g).steps n a h).0 e in
          let r = run table limit b h in
          let s = ih h in
          let k = s.1 in
          ((n, a, h, f.0, f.1, s.0), omega arith, more b r.steps r.last r.ending s.2)
      pick stuck e ih = (refl, omega arith, (step_meets table x limit g).sticks.0 e)
      pick too_large e ih = (refl, omega arith, (omega arith, (step_meets table x limit g).refuses.0 e))

  -- THE RUN MEETS ITS CLAIM
  pub run_meets : (b : ℕ) (g : Term) → RunClaim table limit b g (run table limit b g)
  run_meets b g = claim_of b g (run table limit b g) (says b g)

  -- AND NO OTHER ANSWER DOES
  same_first : (g : Term) (n m a b : ℕ) (h k : Term) → First table g n a h → First table g m b k → h ≡ k
  same_first g n m a b h k f e =
      ap (λ (p : ℕ × Term). p.1) (some-injective (n, h) (m, k) (sym ((first_iff table x g n a h).1 f).0 ∙ ((first_iff table x g m b k).1 e).0))

  -- a run that has ended goes no further
  no_more : (b j : ℕ) (g m : Term) (e : Ending) → Ends b zero g e → Leads table limit (suc j) g m → suc j ≤ b → ⊥
  no_more b j g m ends_stuck p l i = not_stuck_lem g l.0 l.1 l.2 l.3.rewrites p
  no_more b j g m ends_spent p l i = let z = p.0 in omega arith
  no_more b j g m ends_over p l i =
      let q = p.1 in
      let s = same_first g q.0 l.0 q.1 l.1 q.2 l.2 q.3 l.3 in
      let u : limit < node_count l.2 = subst (λ (h : Term). limit < node_count h) s q.4 in
      let v = l.4 in
      omega arith

  -- the same count, the same last configuration, the same ending
  abbrev Same : ℕ → Term → Ending → ℕ → Term → Ending → Type 0
  Same k l e j m f = (k ≡ j) × (l ≡ m) × (e ≡ f)

  one_run : (b k j : ℕ) (g l m : Term) (e f : Ending) → Leads table limit k g l → k ≤ b → Ends b k l e → Leads table limit j g m → j ≤ b → Ends b j m f → Same k l e j m f
  one_run b zero zero g l m e f p i s q h t =
      (refl, sym p ∙ q, one_ending b zero m e f (subst (λ (y : Term). Ends b zero y e) (sym p ∙ q) s) t)
  one_run b zero (suc j) g l m e f p i s q h t = absurd (no_more b j g m e (subst⁻¹ (λ (y : Term). Ends b zero y e) p s) q h)
  one_run b (suc k) zero g l m e f p i s q h t = absurd (no_more b k g l f (subst⁻¹ (λ (y : Term). Ends b zero y f) q t) p i)
  one_run zero (suc k) (suc j) g l m e f p i s q h t = absurd (let z : ⊥ = omega arith in z)
  one_run (suc b) (suc k) (suc j) g l m e f p i s q h t =
      let d = same_first g q.0 p.0 q.1 p.1 q.2 p.2 q.3 p.3 in
      let r = one_run b k j p.2 l m e f p.5 (omega arith) (less b k l e s) (subst (λ (y : Term). Leads table limit j y m) d q.5) (omega arith) (less b j m f t) in
      (ap suc r.0, r.1, r.2)

  pub run_only : (b : ℕ) (g : Term) (r s : RunResult) → RunClaim table limit b g r → RunClaim table limit b g s → r ≡ s
  run_only b g r s c d =
      let p = of_claim b g r c in
      let q = of_claim b g s d in
      let e = one_run b r.steps s.steps g r.last s.last r.ending s.ending p.0 p.1 p.2 q.0 q.1 q.2 in
      record_same r.steps s.steps r.last s.last r.ending s.ending e.0 e.1 e.2
    where
      record_same : (k j : ℕ) (l m : Term) (e f : Ending) → k ≡ j → l ≡ m → e ≡ f → ◌≡◌ {A = RunResult} (record { steps = k; last = l; ending = e }) (record { steps = j; last = m; ending = f })
      record_same k j l m e f p q r = cc
