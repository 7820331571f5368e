-- WHY A RULE DOES NOT APPLY is computed rightly: the obstacle is the relation's, there is one exactly if the rule relates nothing, and only one.
use mathlib.Core.Path.{◌≡◌, refl, sym, ◌∙◌, ap, subst}
use mathlib.Core.Bool.{Bool, true, false, not, cond, true≢false}
use mathlib.Core.Logic.{◌↔◌}
use mathlib.Core.Option.{Option, none, some, some-injective, some-ne-none, none-ne-some}
use Prim.Native.Nat.{ℕ, ◌<◌}
use native.Mathlib.Omega.{arith}
use lib.Dec.{T}
use lib.ListN.{length, take, get_elem?}
use Rattle.minuska.specs.Basics.{◌>>=◌, present}
use Rattle.minuska.specs.Term.{Term, single, node_count}
use Rattle.minuska.specs.Satisfaction.{Valuation, SideCondition, Holds, HoldAll}
use Rattle.minuska.specs.Misfit.{Disagrees}
use Rattle.minuska.specs.Obstacle.{Reason, left_differs, condition_fails, LowestFailing, Obstacle}
use Rattle.minuska.specs.Rule.{Rule, ok_condition, ok_rule}
use Rattle.minuska.specs.Rewriting.{Relates}
use Rattle.minuska.specs.Computed.Match.{unbound, try_match}
use Rattle.minuska.specs.Computed.Compare.{Comparison, agreed, apart, comparison, bound_by}
use Rattle.minuska.specs.Computed.Value.{value, holds, hold_all}
use Rattle.minuska.specs.Computed.Step.{successor}
use Rattle.minuska.specs.Computed.Reasons.{failing, reason_by, reason}
use Rattle.minuska.proofs.Tests.{came, true_of, false_of, every_there, every_take}
use Rattle.minuska.proofs.Good.{good, good_condition}
use Rattle.minuska.proofs.MatchLaw.{match_sound, matches_binds, matches_unique}
use Rattle.minuska.proofs.CompareLaw.{compare_match}
use Rattle.minuska.proofs.MisfitLaw.{agrees_matches, matches_agrees, apart_disagrees, disagrees_apart, place_low}
use Rattle.minuska.proofs.ValueLaw.{holds_iff}
use Rattle.minuska.proofs.ConditionLaw.{has_value}
use Rattle.minuska.proofs.OrderLaw.{named_below}
use Rattle.minuska.proofs.FailingLaw.{failing_first, first_failing, none_failing, failing_agree}
use Rattle.minuska.proofs.SuccessorLaw.{hold_all_lem, after_match, successor_iff}

-- ---- an accepted rule
module _ (r : Rule) (g : Term) (x : T (ok_rule r)) where
  abbrev fit : Option Valuation
  fit = try_match (single r.left) (single g) unbound

  okay : (n : ℕ) (c : SideCondition) → get_elem? r.conditions n ≡ some c → (ρ : Valuation) → T (holds ρ c) ↔ Holds ρ c
  okay n c e ρ =
      let y = good_condition r.left c (every_there (ok_condition r.left) r.conditions (good r x).conditions n c e) in
      holds_iff ρ c y.first_expression y.second_expression

  before_iff : (n : ℕ) (ρ : Valuation) → T (hold_all ρ (take n r.conditions)) ↔ HoldAll ρ (take n r.conditions)
  before_iff n ρ = hold_all_lem r.left ρ (take n r.conditions) (every_take (ok_condition r.left) r.conditions (good r x).conditions n)

  two_kinds : (k n : ℕ) → left_differs k ≡ condition_fails n → ⊥
  two_kinds k n e = let z : ◌≡◌ {A = ℕ} 0 1 = cc in omega arith

  -- THE COMPUTED OBSTACLE IS ONE,
  pub reason_obstacle : (o : Reason) → reason r g ≡ some o → Obstacle r g o
  reason_obstacle o e = go (comparison r.left g) refl e
    where
      go : (c : Comparison) → comparison r.left g ≡ c → reason_by r.conditions c ≡ some o → Obstacle r g o
      go (apart k) a q =
          subst (Obstacle r g) (some-injective (left_differs k) o q)
          (record { left = λ place p. subst (Disagrees r.left g) (let z : k ≡ place = cc in z) (apart_disagrees r.left g k a); condition = λ n p. absurd (two_kinds k n p) })
      go (agreed ρ) a q =
          let (k, f, p) = came (failing ρ r.conditions) (λ n. some (condition_fails n)) o q in
          let w = failing_first ρ r.conditions k f in
          let m : LowestFailing r g k = record { valuation = ρ; matched = agrees_matches r.left g ρ a; before = (before_iff k ρ).0 w.before; condition = w.condition; numbered = w.numbered; fails = λ h. true≢false (sym (true_of (holds ρ w.condition) ((okay k w.condition w.numbered ρ).1 h)) ∙ w.fails) } in
          subst (Obstacle r g) (some-injective (condition_fails k) o p) (record { left = λ place z. absurd (two_kinds place k (sym z)); condition = λ n z. subst (LowestFailing r g) (let y : k ≡ n = cc in y) m })

  -- AND NO OTHER IS
  pub obstacle_reason : (o : Reason) → Obstacle r g o → reason r g ≡ some o
  obstacle_reason (left_differs k) w = ap (reason_by r.conditions) (disagrees_apart r.left g k (w.left k refl))
  obstacle_reason (condition_fails n) w = go (w.condition n refl) (comparison r.left g) refl
    where
      go : (f : LowestFailing r g n) (c : Comparison) → comparison r.left g ≡ c → reason_by r.conditions c ≡ some (condition_fails n)
      go f (apart k) a = absurd (matches_agrees r.left g f.valuation f.matched k a)
      go f (agreed σ) a =
          let τ = f.valuation in
          let p = failing_agree r.left σ τ (matches_unique (single r.left) (single g) σ τ (agrees_matches r.left g σ a) f.matched) r.conditions (good r x).conditions in
          let q = first_failing τ r.conditions n f.condition f.numbered (false_of (holds τ f.condition) (λ h. f.fails ((okay n f.condition f.numbered τ).0 h))) ((before_iff n τ).1 f.before) in
          ap (λ (o : Option ℕ). o >>= λ k. some (condition_fails k)) (p ∙ q)

  pub one_obstacle : (o p : Reason) → Obstacle r g o → Obstacle r g p → o ≡ p
  one_obstacle o p v w = some-injective o p (sym (obstacle_reason o v) ∙ obstacle_reason p w)

  -- a place is that of one of the left's nodes, a number that of one of the conditions
  pub place_below : (k : ℕ) → reason r g ≡ some (left_differs k) → k < node_count r.left
  place_below k e = place_low r.left g k ((reason_obstacle (left_differs k) e).left k refl)

  pub number_below_lem : (n : ℕ) → reason r g ≡ some (condition_fails n) → n < length r.conditions
  number_below_lem n e = let w = (reason_obstacle (condition_fails n) e).condition n refl in named_below r.conditions n w.condition w.numbered

  -- it applies exactly if it has none
  pub none_applies : (reason r g ≡ none) ↔ ((h : Term) × (successor r g ≡ some h))
  none_applies = go (comparison r.left g) (compare_match (single r.left) (single g) unbound)
    where
      held : (ρ : Valuation) → some ρ ≡ fit → (b : Bool) → hold_all ρ r.conditions ≡ b → successor r g ≡ cond b (value ρ r.right) none
      held ρ m b e = ap (λ (o : Option Valuation). o >>= after_match r) (sym m) ∙ ap (λ (c : Bool). cond c (value ρ r.right) none) e

      judged : (ρ : Valuation) → some ρ ≡ fit → (o : Option ℕ) → not (present o) ≡ hold_all ρ r.conditions → ((o >>= λ k. some (condition_fails k)) ≡ none) ↔ ((h : Term) × (successor r g ≡ some h))
      judged ρ m none e =
          let v = has_value (single r.left) ρ (matches_binds ρ (single r.left) (single g) (match_sound (single r.left) (single g) unbound ρ (sym m)).0) r.right (good r x).covered in
          (λ q. (v.0, held ρ m true (sym e) ∙ v.1), λ q. refl)
      judged ρ m (some k) e = (λ q. absurd (some-ne-none (condition_fails k) q), λ q. absurd (none-ne-some q.0 (sym (held ρ m false (sym e)) ∙ q.1)))

      go : (c : Comparison) → bound_by c ≡ fit → (reason_by r.conditions c ≡ none) ↔ ((h : Term) × (successor r g ≡ some h))
      go (agreed ρ) m = judged ρ m (failing ρ r.conditions) (none_failing ρ r.conditions)
      go (apart k) m = (λ q. absurd (some-ne-none (left_differs k) q), λ q. absurd (none-ne-some q.0 (ap (λ (o : Option Valuation). o >>= after_match r) m ∙ q.1)))

  -- A RULE HAS AN OBSTACLE EXACTLY IF NO VALUATION AND TERM ARE RELATED BY IT
  pub obstacle_iff : ((o : Reason) × Obstacle r g o) ↔ ((ρ : Valuation) (h : Term) → Relates r ρ g h → ⊥)
  obstacle_iff = (
    (λ w ρ h s. some-ne-none w.0 (sym (obstacle_reason w.0 w.1) ∙ none_applies.1 (h, (successor_iff r g h x).1 (ρ, s)))),
    λ f. pick f (reason r g) refl,
  )
    where
      pick : ((ρ : Valuation) (h : Term) → Relates r ρ g h → ⊥) → (o : Option Reason) → reason r g ≡ o → (o : Reason) × Obstacle r g o
      pick f none e = let (h, s) = none_applies.0 e in let w = (successor_iff r g h x).0 s in absurd (f w.0 h w.1)
      pick f (some o) e = (o, reason_obstacle o e)
