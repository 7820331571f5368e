-- THE REASONS of a stuck configuration meet their claim, and no other answer does.
use mathlib.Core.Path.{◌≡◌, refl, sym, ◌∙◌, ap, ap₂}
use mathlib.Core.Option.{Option, none, some, some-injective, some-ne-none, none-ne-some}
use mathlib.Core.List.{List, [], ◌∷◌}
use Prim.Native.Nat.{ℕ, zero, suc}
use native.Mathlib.Omega.{arith}
use lib.Dec.{T}
use lib.ListN.{length, get_elem?}
use Rattle.minuska.specs.Basics.{every}
use Rattle.minuska.specs.Term.{Term}
use Rattle.minuska.specs.Obstacle.{Reason, Obstacle}
use Rattle.minuska.specs.Rule.{Rule, Table, ok_rule, ok_table}
use Rattle.minuska.specs.Rewriting.{Stuck}
use Rattle.minuska.specs.Answer.{ReasonsResult, listed, not_stuck}
use Rattle.minuska.specs.Claim.{ReasonsClaim}
use Rattle.minuska.specs.Computed.Step.{earliest, action_in}
use Rattle.minuska.specs.Computed.Reasons.{reason, with_reason, reasons_of, listed_unless, reasons}
use Rattle.minuska.proofs.Tests.{and_left, and_right}
use Rattle.minuska.proofs.Good.{good_rules}
use Rattle.minuska.proofs.ObstacleLaw.{reason_obstacle, one_obstacle, obstacle_iff, obstacle_reason}
use Rattle.minuska.proofs.StepLaw.{rule_okay, first_iff, stuck_iff}

module _ (g : Term) where
  -- ---- where every rule has an obstacle there are as many, each at its rule's number
  abbrev pub AllHave : List Rule → Type 0
  AllHave rs = (n : ℕ) (r : Rule) → get_elem? rs n ≡ some r → (o : Reason) × (reason r g ≡ some o)

  pub reasons_first : (r : Rule) (rs : List Rule) → AllHave (r ∷ rs) → (o : Reason) × (reason r g ≡ some o) × (reasons_of (r ∷ rs) g ≡ o ∷ reasons_of rs g)
  reasons_first r rs a = let (o, e) = a 0 r refl in (o, e, ap (λ (p : Option Reason). with_reason p (reasons_of rs g)) e)

  pub reasons_length : (rs : List Rule) → AllHave rs → length (reasons_of rs g) ≡ length rs
  reasons_length [] a = refl
  reasons_length (r ∷ rs) a = ap length (reasons_first r rs a).2 ∙ ap suc (reasons_length rs (λ n. a (suc n)))

  pub reasons_at : (rs : List Rule) → AllHave rs → (n : ℕ) (r : Rule) → get_elem? rs n ≡ some r → get_elem? (reasons_of rs g) n ≡ reason r g
  reasons_at [] a zero r e = absurd (none-ne-some r e)
  reasons_at [] a (suc n) r e = absurd (none-ne-some r e)
  reasons_at (q ∷ rs) a zero r e =
      let (o, p, l) = reasons_first q rs a in
      ap (λ (os : List Reason). get_elem? os 0) l ∙ (sym p ∙ ap (λ (s : Rule). reason s g) (some-injective q r e))
  reasons_at (q ∷ rs) a (suc n) r e = ap (λ (os : List Reason). get_elem? os (suc n)) (reasons_first q rs a).2 ∙ reasons_at rs (λ m. a (suc m)) n r e

  -- ---- two lists of obstacles are one
  abbrev Real : List Rule → List Reason → Type 0
  Real rs os = (n : ℕ) (r : Rule) (o : Reason) → get_elem? rs n ≡ some r → get_elem? os n ≡ some o → Obstacle r g o

  same_obstacles : (rs : List Rule) (os ps : List Reason) → T (every ok_rule rs) → length os ≡ length rs → length ps ≡ length rs → Real rs os → Real rs ps → os ≡ ps
  same_obstacles [] [] [] x d e v w = refl
  same_obstacles [] [] (p ∷ ps) x d e v w = absurd (let f : ⊥ = omega (arith, e) in f)
  same_obstacles [] (o ∷ os) ps x d e v w = absurd (let f : ⊥ = omega (arith, d) in f)
  same_obstacles (r ∷ rs) [] ps x d e v w = absurd (let f : ⊥ = omega (arith, d) in f)
  same_obstacles (r ∷ rs) (o ∷ os) [] x d e v w = absurd (let f : ⊥ = omega (arith, e) in f)
  same_obstacles (r ∷ rs) (o ∷ os) (p ∷ ps) x d e v w =
      ap₂ ◌∷◌ (one_obstacle r g (and_left (ok_rule r) (every ok_rule rs) x) o p (v 0 r o refl refl) (w 0 r p refl refl))
      (same_obstacles rs os ps (and_right (ok_rule r) (every ok_rule rs) x) (omega (arith, d)) (omega (arith, e)) (λ n. v (suc n)) (λ n. w (suc n)))

module _ (table : Table) (x : T (ok_table table)) (g : Term) where
  -- stuck: every rule has an obstacle
  pub all_have : Stuck table g → AllHave g table
  all_have s n r e =
      let k = rule_okay table x n r e in
      let (o, w) = (obstacle_iff r g k).1 (λ ρ h. s n r ρ h e) in
      (o, obstacle_reason r g k o w)

  listed_not : (os : List Reason) (n : ℕ) → listed os ≡ not_stuck n → ⊥
  listed_not os n e = let z : ◌≡◌ {A = ℕ} 0 1 = cc in omega arith

  -- THE ANSWER MEETS ITS CLAIM
  pub reasons_meets : ReasonsClaim table g (reasons table g)
  unfolding reasons
  reasons_meets = pick (earliest table g) refl
    where
      pick : (p : Option (ℕ × Term)) → earliest table g ≡ p → ReasonsClaim table g (listed_unless p (reasons_of table g))
      pick none e =
          let s : Stuck table g = (stuck_iff table x g).0 e in
          let a = all_have s in
          record {
            lists = ((λ q. s), λ q. (reasons_of table g, refl));
            full = λ os q. let z : reasons_of table g ≡ os = cc in ap length (sym z) ∙ reasons_length g table a;
            real = λ os q n r o i j. let z : reasons_of table g ≡ os = cc in reason_obstacle r g (rule_okay table x n r i) o (sym (reasons_at g table a n r i) ∙ (ap (λ (ps : List Reason). get_elem? ps n) z ∙ j));
            otherwise = λ n. ((λ q. absurd (listed_not (reasons_of table g) n q)), λ f. absurd (none-ne-some (n, f.1) (sym e ∙ ((first_iff table x g n f.0 f.1).1 f.2).0)));
          }
      pick (some nh) e =
          record {
            lists = ((λ q. absurd (listed_not q.0 nh.0 (sym q.1))), λ s. absurd (some-ne-none nh (sym e ∙ (stuck_iff table x g).1 s)));
            full = λ os q. absurd (listed_not os nh.0 (sym q));
            real = λ os q. absurd (listed_not os nh.0 (sym q));
            otherwise = λ n. ((λ q. let z : nh.0 ≡ n = cc in (action_in (get_elem? table n), nh.1, (first_iff table x g n (action_in (get_elem? table n)) nh.1).0 (e ∙ ap (λ (m : ℕ). some (m, nh.1)) z, refl))), λ f. ap (λ (m : ℕ × Term). not_stuck m.0) (some-injective nh (n, f.1) (sym e ∙ ((first_iff table x g n f.0 f.1).1 f.2).0)));
          }

  -- AND NO OTHER ANSWER DOES
  pub reasons_only : (y : ReasonsResult) → ReasonsClaim table g y → reasons table g ≡ y
  reasons_only (not_stuck n) c = (reasons_meets.otherwise n).1 ((c.otherwise n).0 refl)
  reasons_only (listed os) c =
      let (ps, e) = reasons_meets.lists.1 (c.lists.0 (os, refl)) in
      e ∙ ap listed (same_obstacles g table ps os (good_rules table x) (reasons_meets.full ps e) (c.full os refl) (reasons_meets.real ps e) (c.real os refl))
