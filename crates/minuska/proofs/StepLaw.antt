-- DEMAND 2, THE STEP: the two steps meet their claims, and no other answer does.
use mathlib.Core.Path.{◌≡◌, refl, sym, ◌∙◌, ap, subst}
use mathlib.Core.Bool.{Bool, true, false, cond}
use mathlib.Core.Logic.{◌⊎◌, inl, inr, ◌↔◌}
use mathlib.Core.Option.{Option, none, some, some-injective, some-ne-none, none-ne-some}
use Prim.Native.Nat.{ℕ, ◌<◌, ◌≤◌}
use native.Mathlib.Omega.{arith}
use lib.Dec.{T, leb}
use lib.ListN.{get_elem?}
use borrow.Author.Tests.{leb-true, leb-false}
use Rattle.minuska.specs.Basics.{◌>>=◌}
use Rattle.minuska.specs.Term.{Term, node_count}
use Rattle.minuska.specs.Rule.{Rule, Table, ok_rule, ok_table}
use Rattle.minuska.specs.Rewriting.{RewritesBy, Earlier, First, Stuck}
use Rattle.minuska.specs.Answer.{StepResult, stepped, stuck, too_large}
use Rattle.minuska.specs.Claim.{RuleClaim, StepClaim}
use Rattle.minuska.specs.Computed.Step.{successor, successor_by, order, earliest, action_in, answered, with_number, step_by_rule, step}
use Rattle.minuska.proofs.Tests.{came, every_there, exactly}
use Rattle.minuska.proofs.Good.{good_rules}
use Rattle.minuska.proofs.SuccessorLaw.{successor_iff}
use Rattle.minuska.proofs.OrderLaw.{order_complete, order_sorted, order_asymmetric, first_applies, first_none, first_least}

-- ---- an accepted table
module _ (table : Table) (x : T (ok_table table)) where
  pub rule_okay : (n : ℕ) (r : Rule) → get_elem? table n ≡ some r → T (ok_rule r)
  rule_okay n r e = every_there ok_rule table (good_rules table x) n r e

  -- BY A NUMBER: the successor is the relation's, with the rule's own action
  by_number : (n : ℕ) (g h : Term) → successor_by table n g ≡ some h → RewritesBy table (action_in (get_elem? table n)) n g h
  by_number n g h e =
      let c = came (get_elem? table n) (λ r. successor r g) h e in
      let w = (successor_iff c.0 g h (rule_okay n c.0 c.1)).0 c.2 in
      record { rule = c.0; numbered = c.1; carries = sym (ap action_in c.1); valuation = w.0; relates = w.1 }

  pub number_by : (a n : ℕ) (g h : Term) → RewritesBy table a n g h → (successor_by table n g ≡ some h) × (action_in (get_elem? table n) ≡ a)
  number_by a n g h w =
      (ap (λ (o : Option Rule). o >>= λ q. successor q g) w.numbered ∙ (successor_iff w.rule g h (rule_okay n w.rule w.numbered)).1 (w.valuation, w.relates), ap action_in w.numbered ∙ w.carries)

  pub number_iff : (a n : ℕ) (g h : Term) → ((successor_by table n g ≡ some h) × (action_in (get_elem? table n) ≡ a)) ↔ RewritesBy table a n g h
  number_iff a n g h = ((λ p. subst (λ (b : ℕ). RewritesBy table b n g h) p.1 (by_number n g h p.0)), number_by a n g h)

  none_related : (n : ℕ) (g : Term) → successor_by table n g ≡ none → (a : ℕ) (h : Term) → RewritesBy table a n g h → ⊥
  none_related n g e a h w = none-ne-some h (sym e ∙ (number_by a n g h w).0)

  -- BY THE EARLIEST RULE
  first_found : (g : Term) (n : ℕ) (h : Term) → earliest table g ≡ some (n, h) → First table g n (action_in (get_elem? table n)) h
  first_found g n h e =
      record { rewrites = by_number n g h (first_applies table (order table) g n h e); earliest = λ m b k i w. pick m i (first_least table (order table) g (Earlier table) (order_sorted table) n h e m k (order_complete table x m w.rule w.numbered) (number_by b m g k w).0) }
    where
      pick : (m : ℕ) → Earlier table m n → (n ≡ m) ⊎ Earlier table n m → ⊥
      pick m i (inl d) = order_asymmetric table m m (subst (Earlier table m) d i) (subst (Earlier table m) d i)
      pick m i (inr j) = order_asymmetric table m n i j

  none_found : (g : Term) → earliest table g ≡ none → (a n : ℕ) (h : Term) → RewritesBy table a n g h → ⊥
  none_found g e a n h w = none_related n g (first_none table (order table) g e n (order_complete table x n w.rule w.numbered)) a h w

  found_first : (g : Term) (n a : ℕ) (h : Term) → First table g n a h → earliest table g ≡ some (n, h)
  found_first g n a h f = pick (earliest table g) refl
    where
      same : (m : ℕ) (k : Term) → earliest table g ≡ some (m, k) → (m ≡ n) ⊎ Earlier table m n → earliest table g ≡ some (n, h)
      same m k e (inl d) =
          let s : successor_by table n g ≡ some k = subst (λ (i : ℕ). successor_by table i g ≡ some k) d (first_applies table (order table) g m k e) in
          let p : k ≡ h = some-injective k h (sym s ∙ (number_by a n g h f.rewrites).0) in
          cc
      same m k e (inr i) = absurd (f.earliest m (action_in (get_elem? table m)) k i (first_found g m k e).rewrites)

      pick : (o : Option (ℕ × Term)) → earliest table g ≡ o → earliest table g ≡ some (n, h)
      pick none e = absurd (none_found g e a n h f.rewrites)
      pick (some mk) e =
          same mk.0 mk.1 e
          (first_least table (order table) g (Earlier table) (order_sorted table) mk.0 mk.1 e n h (order_complete table x n f.rewrites.rule f.rewrites.numbered) (number_by a n g h f.rewrites).0)

  pub first_iff : (g : Term) (n a : ℕ) (h : Term) → ((earliest table g ≡ some (n, h)) × (action_in (get_elem? table n) ≡ a)) ↔ First table g n a h
  first_iff g n a h = (
    (λ p. subst (λ (b : ℕ). First table g n b h) p.1 (first_found g n h p.0)),
    λ f. (found_first g n a h f, (number_by a n g h f.rewrites).1),
  )

  pub stuck_iff : (g : Term) → (earliest table g ≡ none) ↔ Stuck table g
  stuck_iff g = (
    (λ e n r ρ h p s. none_found g e r.action n h (record { rule = r; numbered = p; carries = refl; valuation = ρ; relates = s })),
    λ f. pick f (earliest table g) refl,
  )
    where
      pick : Stuck table g → (o : Option (ℕ × Term)) → earliest table g ≡ o → earliest table g ≡ none
      pick f none e = e
      pick f (some nh) e =
          let w = (first_found g nh.0 nh.1 e).rewrites in
          absurd (f nh.0 w.rule w.valuation nh.1 w.numbered w.relates)

-- ---- what an answer says, of a relation that a partial function computes: `Made n a h`, and `Nothing`
module _ (limit : ℕ) (Made : ℕ → ℕ → Term → Type 0) (Nothing : Type 0) where
  abbrev Says : StepResult → Type 0
  Says (stepped n a h) = Made n a h × (node_count h ≤ limit)
  Says stuck = Nothing
  Says too_large = (n : ℕ) × (a : ℕ) × (h : Term) × Made n a h × (limit < node_count h)

module _ (table : Table) (limit : ℕ) (Made : ℕ → ℕ → Term → Type 0) (Nothing : Type 0) (o : Option (ℕ × Term))
    (made : (n a : ℕ) (h : Term) → ((o ≡ some (n, h)) × (action_in (get_elem? table n) ≡ a)) ↔ Made n a h) (nothing : (o ≡ none) ↔ Nothing) where
  says_answered : Says limit Made Nothing (answered table limit o)
  says_answered = pick o refl
    where
      test : (n : ℕ) (h : Term) → o ≡ some (n, h) → (b : Bool) → leb (node_count h) limit ≡ b → Says limit Made Nothing (cond b (stepped n (action_in (get_elem? table n)) h) too_large)
      test n h e true k = ((made n (action_in (get_elem? table n)) h).0 (e, refl), leb-true (node_count h) limit k)
      test n h e false k = (n, action_in (get_elem? table n), h, (made n (action_in (get_elem? table n)) h).0 (e, refl), leb-false (node_count h) limit k)

      pick : (p : Option (ℕ × Term)) → o ≡ p → Says limit Made Nothing (answered table limit p)
      pick none e = nothing.0 e
      pick (some nh) e = test nh.0 nh.1 e (leb (node_count nh.1) limit) refl

  no_other : (y : StepResult) → Says limit Made Nothing y → answered table limit o ≡ y
  no_other (stepped n a h) s =
      let m = (made n a h).1 s.0 in
      ap (answered table limit) m.0 ∙ (ap (λ (b : Bool). cond b (stepped n (action_in (get_elem? table n)) h) too_large) (small (leb (node_count h) limit) refl s.1) ∙ ap (λ (b : ℕ). stepped n b h) m.1)
    where
      small : (b : Bool) → leb (node_count h) limit ≡ b → node_count h ≤ limit → leb (node_count h) limit ≡ true
      small true e k = e
      small false e k = let j = leb-false (node_count h) limit e in absurd (let f : ⊥ = omega arith in f)
  no_other stuck s = ap (answered table limit) (nothing.1 s)
  no_other too_large s =
      let m = (made s.0 s.1 s.2).1 s.3 in
      ap (answered table limit) m.0 ∙ ap (λ (b : Bool). cond b (stepped s.0 (action_in (get_elem? table s.0)) s.2) too_large) (large s.2 (leb (node_count s.2) limit) refl s.4)
    where
      large : (h : Term) (b : Bool) → leb (node_count h) limit ≡ b → limit < node_count h → leb (node_count h) limit ≡ false
      large h true e k = let j = leb-true (node_count h) limit e in absurd (let f : ⊥ = omega arith in f)
      large h false e k = e

  pub answer_iff : (y : StepResult) → (answered table limit o ≡ y) ↔ Says limit Made Nothing y
  answer_iff = exactly (Says limit Made Nothing) (answered table limit o) says_answered no_other

-- THE STEP BY ONE GIVEN RULE MEETS ITS CLAIM
module _ (table : Table) (x : T (ok_table table)) (limit : ℕ) where
  pub rule_meets : (n : ℕ) (g : Term) → RuleClaim table limit n g (step_by_rule table limit n g)
  unfolding step_by_rule
  rule_meets n g =
      let i = answer_iff table limit (λ m a h. (m ≡ n) × RewritesBy table a n g h) ((a : ℕ) (h : Term) → RewritesBy table a n g h → ⊥) (with_number n (successor_by table n g)) made (none_of (successor_by table n g) refl) in
      record { steps = λ m a h. ((λ e. let s = (i (stepped m a h)).0 e in (s.0.0, s.0.1, s.1)), λ s. (i (stepped m a h)).1 ((s.0, s.1), s.2)); does_not_apply = i stuck; refuses = ((λ e. let s = (i too_large).0 e in (s.1, s.2, s.3.1, s.4)), λ s. (i too_large).1 (n, s.0, s.1, (refl, s.2), s.3)) }
    where
      numbered : (o : Option Term) (m : ℕ) (h : Term) → with_number n o ≡ some (m, h) → (m ≡ n) × (o ≡ some h)
      numbered none m h e = absurd (none-ne-some (m, h) e)
      numbered (some k) m h e =
          let d : Path (ℕ × Term) (n, k) (m, h) = some-injective (n, k) (m, h) e in
          (sym (ap (λ (y : ℕ × Term). y.0) d), ap (λ (y : ℕ × Term). some y.1) d)

      made : (m a : ℕ) (h : Term) → ((with_number n (successor_by table n g) ≡ some (m, h)) × (action_in (get_elem? table m) ≡ a)) ↔ ((m ≡ n) × RewritesBy table a n g h)
      made m a h = (
        (λ p.
            let t = numbered (successor_by table n g) m h p.0 in
            (t.0, (number_iff table x a n g h).0 (t.1, ap (λ (i : ℕ). action_in (get_elem? table i)) (sym t.0) ∙ p.1))),
        λ p.
            let k = (number_iff table x a n g h).1 p.1 in
            (ap (with_number n) k.0 ∙ ap (λ (i : ℕ). some (i, h)) (sym p.0), ap (λ (i : ℕ). action_in (get_elem? table i)) p.0 ∙ k.1),
      )

      none_of : (o : Option Term) → successor_by table n g ≡ o → (with_number n o ≡ none) ↔ ((a : ℕ) (h : Term) → RewritesBy table a n g h → ⊥)
      none_of none e = ((λ z. none_related table x n g e), λ f. refl)
      none_of (some h) e =
          ((λ z. absurd (some-ne-none (n, h) z)), λ f. absurd (f (action_in (get_elem? table n)) h ((number_iff table x (action_in (get_elem? table n)) n g h).0 (e, refl))))

  -- THE STEP MEETS ITS CLAIM
  pub step_meets : (g : Term) → StepClaim table limit g (step table limit g)
  unfolding step
  step_meets g =
      let i = answer_iff table limit (First table g) (Stuck table g) (earliest table g) (first_iff table x g) (stuck_iff table x g) in
      record { steps = λ n a h. i (stepped n a h); refuses = i too_large; sticks = i stuck }

-- AND NO OTHER ANSWER MEETS THEM
pub rule_only : (table : Table) (limit n : ℕ) (g : Term) (x y : StepResult) → RuleClaim table limit n g x → RuleClaim table limit n g y → x ≡ y
rule_only table limit n g x y c d = pick x refl
  where
    pick : (z : StepResult) → x ≡ z → x ≡ y
    pick (stepped m a h) e = e ∙ sym ((d.steps m a h).1 ((c.steps m a h).0 e))
    pick stuck e = e ∙ sym (d.does_not_apply.1 (c.does_not_apply.0 e))
    pick too_large e = e ∙ sym (d.refuses.1 (c.refuses.0 e))

pub step_only : (table : Table) (limit : ℕ) (g : Term) (x y : StepResult) → StepClaim table limit g x → StepClaim table limit g y → x ≡ y
step_only table limit g x y c d = pick x refl
  where
    pick : (z : StepResult) → x ≡ z → x ≡ y
    pick (stepped n a h) e = e ∙ sym ((d.steps n a h).1 ((c.steps n a h).0 e))
    pick stuck e = e ∙ sym (d.sticks.1 (c.sticks.0 e))
    pick too_large e = e ∙ sym (d.refuses.1 (c.refuses.0 e))
