-- DEMAND 3: the replay of an accepted table meets its claim, over the one-step relation's successors, and no other answer does.
use mathlib.Core.Path.{◌≡◌, refl, sym, ◌∙◌, ap, subst}
use mathlib.Core.Logic.{◌↔◌}
use mathlib.Core.Option.{Option, none, some, some-injective}
use mathlib.Core.List.{List}
use Prim.Native.Nat.{ℕ, ◌≤◌, ◌<◌}
use lib.Dec.{T, eqb, eqb→eq, eqb_refl}
use lib.ListN.{get_elem?}
use Rattle.minuska.specs.Basics.{◌>>=◌, provided}
use Rattle.minuska.specs.Term.{Term, node_count}
use Rattle.minuska.specs.Rule.{Rule, Table, ok_table}
use Rattle.minuska.specs.Rewriting.{RewritesBy, Earlier}
use Rattle.minuska.specs.Answer.{StepResult, stepped, stuck, too_large, ReplayResult, reproduced, exceeded, not_reproduced}
use Rattle.minuska.specs.Claim.{RuleClaim, ReplayClaim, SomeList}
use Rattle.minuska.specs.Computed.Step.{successor_by, carries, next, order, action_in}
use Rattle.minuska.specs.Computed.Replay.{replay}
use Rattle.minuska.proofs.Tests.{came, provided_some, provided_true, exactly}
use Rattle.minuska.proofs.SearchLaw.{Means, search_means, none_of_any_size_lem, one_meaning}
use Rattle.minuska.proofs.OrderLaw.{order_complete, order_sorted, order_asymmetric}
use Rattle.minuska.proofs.StepLaw.{number_iff}

abbrev pub NextTold : Option Term → ℕ → StepResult → Type 0
NextTold o limit stuck = o ≡ none
NextTold o limit (stepped n a h) = (o ≡ some h) × (node_count h ≤ limit)
NextTold o limit too_large = (h : Term) × (o ≡ some h) × (limit < node_count h)

module _ (table : Table) (x : T (ok_table table)) where
  -- the successor by a number that carries an action is the relation's
  abbrev if_carries : ℕ → ℕ → Term → Rule → Option Term
  if_carries a n g r = provided (carries a r) r >>= λ q. successor_by table n g

  next_rewrites : (a n : ℕ) (g h : Term) → next table a n g ≡ some h → RewritesBy table a n g h
  next_rewrites a n g h e =
      let c = came (get_elem? table n) (if_carries a n g) h e in
      let d = came (provided (carries a c.0) c.0) (λ q. successor_by table n g) h c.2 in
      let p : action_in (get_elem? table n) ≡ a = ap action_in c.1 ∙ eqb→eq c.0.action a (provided_some (carries a c.0) c.0 d.0 d.1).0 in
      (number_iff table x a n g h).0 (d.2, p)

  rewrites_next : (a n : ℕ) (g h : Term) → RewritesBy table a n g h → next table a n g ≡ some h
  rewrites_next a n g h w =
      let t : T (carries a w.rule) = subst (λ (y : ℕ). T (eqb w.rule.action y)) w.carries (eqb_refl w.rule.action) in
      ap (λ (o : Option Rule). o >>= if_carries a n g) w.numbered ∙
      (ap (λ (o : Option Rule). o >>= λ q. successor_by table n g) (provided_true (carries a w.rule) w.rule t) ∙ ((number_iff table x a n g h).1 w).0)

  pub next_iff : (a n : ℕ) (g h : Term) → (next table a n g ≡ some h) ↔ RewritesBy table a n g h
  next_iff a n g h = (next_rewrites a n g h, rewrites_next a n g h)

  -- ALL THAT A REPLAY NEEDS OF A STEP: what the claim of the step by one rule tells of the successor by a rule that carries the action
  module _ (a n : ℕ) (r : Rule) (named : get_elem? table n ≡ some r) (acts : r.action ≡ a) (limit : ℕ) (g : Term) where
    carried : (b : ℕ) (h : Term) → RewritesBy table b n g h → next table a n g ≡ some h
    carried b h w =
        let same : w.rule ≡ r = some-injective w.rule r (sym w.numbered ∙ named) in
        let e : b ≡ a = sym w.carries ∙ (ap (λ (q : Rule). q.action) same ∙ acts) in
        rewrites_next a n g h (subst (λ (c : ℕ). RewritesBy table c n g h) e w)

    pub next_told : (y : StepResult) → RuleClaim table limit n g y → NextTold (next table a n g) limit y
    next_told stuck k = none_there (next table a n g) refl
      where
        none_there : (o : Option Term) → next table a n g ≡ o → next table a n g ≡ none
        none_there none e = e
        none_there (some h) e = absurd (k.does_not_apply.0 refl a h (next_rewrites a n g h e))
    next_told (stepped m b h) k = let w = (k.steps m b h).0 refl in (carried b h w.1, w.2)
    next_told too_large k = let w = k.refuses.0 refl in (w.1, carried w.0 w.1 w.2, w.3)

  module _ (limit : ℕ) (log : List ℕ) (g : Term) where
    abbrev Meaning : ReplayResult Term → Type 0
    Meaning = Means node_count limit (next table) (RewritesBy table) next_iff (Earlier table) log g

    one_only : (y z : ReplayResult Term) → Meaning y → Meaning z → y ≡ z
    one_only = one_meaning node_count limit (next table) (RewritesBy table) next_iff (Earlier table) (order_asymmetric table) log g

    claim_of : node_count g ≤ limit → (y : ReplayResult Term) → Meaning y → ReplayClaim table limit log g y
    claim_of st y m =
        let i = exactly Meaning y m (λ z k. one_only y z m k) in
        record { reproduces = ((λ r. (r.0, r.1, ((i (reproduced r.0 r.1)).0 r.2).0)), found y m); such = λ cs w e. ((i (reproduced cs w)).0 e).0; earliest = λ cs w e. ((i (reproduced cs w)).0 e).1; exceeds = i exceeded; fails = i not_reproduced; none_of_any_size = λ e. none_of_any_size_lem node_count limit (next table) (RewritesBy table) next_iff (Earlier table) log g st ((i not_reproduced).0 e) }
      where
        found : (z : ReplayResult Term) → Meaning z → SomeList table limit log g → (cs : List ℕ) × (w : Term) × (z ≡ reproduced cs w)
        found (reproduced cs w) k s = (cs, w, refl)
        found exceeded k s = absurd (k.0 s)
        found not_reproduced k s = absurd (k.0 s)

    of_claim : (y : ReplayResult Term) → ReplayClaim table limit log g y → Meaning y
    of_claim (reproduced cs w) c = (c.such cs w refl, c.earliest cs w refl)
    of_claim exceeded c = c.exceeds.0 refl
    of_claim not_reproduced c = c.fails.0 refl

    -- THE ANSWER MEETS THE CLAIM
    pub replay_meets : node_count g ≤ limit → ReplayClaim table limit log g (replay table limit log g)
    unfolding replay
    replay_meets st =
        claim_of st (replay table limit log g)
        (search_means node_count limit (next table) (RewritesBy table) next_iff (Earlier table) (order table) (order_sorted table) (λ a n t u w. order_complete table x n w.rule w.numbered) log g st)

    -- AND NO OTHER DOES
    pub replay_only : (y z : ReplayResult Term) → ReplayClaim table limit log g y → ReplayClaim table limit log g z → y ≡ z
    replay_only y z c d = one_only y z (of_claim y c) (of_claim z d)
