-- THE FIRST CONDITION THAT FAILS, of conditions in their order.
use mathlib.Core.Path.{◌≡◌, refl, ◌∙◌, ap, subst, subst⁻¹}
use mathlib.Core.Bool.{Bool, true, false, not, ◌&&◌, cond}
use mathlib.Core.Option.{Option, none, some, some-injective, none-ne-some}
use mathlib.Core.List.{List, [], ◌∷◌}
use Prim.Native.Nat.{ℕ, zero, suc}
use lib.Dec.{T}
use lib.ListN.{take, get_elem?}
use Rattle.minuska.specs.Basics.{◌>>=◌, present, every}
use Rattle.minuska.specs.Term.{Term, single}
use Rattle.minuska.specs.Satisfaction.{Valuation, SideCondition}
use Rattle.minuska.specs.Rule.{ok_condition}
use Rattle.minuska.specs.Computed.Value.{holds, hold_all}
use Rattle.minuska.specs.Computed.Reasons.{failing}
use Rattle.minuska.proofs.Tests.{came, and_left, and_right, and_both, true_of}
use Rattle.minuska.proofs.Good.{good_condition}
use Rattle.minuska.proofs.ValueLaw.{AgreeOn, value_agree}

abbrev or_later : Bool → Option ℕ → Option ℕ
or_later b o = cond b (o >>= λ k. some (suc k)) (some 0)

-- it is the number of one that fails, and all before it hold
pub record FailsFirst (ρ : Valuation) (cs : List SideCondition) (n : ℕ) : Type 0 where
  pub condition : SideCondition
  pub numbered : get_elem? cs n ≡ some condition
  pub fails : holds ρ condition ≡ false
  pub before : T (hold_all ρ (take n cs))

module _ (ρ : Valuation) where
  pub failing_first : (cs : List SideCondition) (n : ℕ) → failing ρ cs ≡ some n → FailsFirst ρ cs n
  failing_first [] n e = absurd (none-ne-some n e)
  failing_first (c ∷ cs) n e = pick (holds ρ c) refl e (λ k f. failing_first cs k f)
    where
      pick : (b : Bool) → holds ρ c ≡ b → or_later b (failing ρ cs) ≡ some n → ((k : ℕ) → failing ρ cs ≡ some k → FailsFirst ρ cs k) → FailsFirst ρ (c ∷ cs) n
      pick true h q ih =
          let (k, f, p) = came (failing ρ cs) (λ k. some (suc k)) n q in
          let w = ih k f in
          subst (FailsFirst ρ (c ∷ cs)) (some-injective (suc k) n p)
          (record { condition = w.condition; numbered = w.numbered; fails = w.fails; before = and_both (holds ρ c) (hold_all ρ (take k cs)) (subst⁻¹ T h tt) w.before })
      pick false h q ih = subst (FailsFirst ρ (c ∷ cs)) (some-injective 0 n q) (record { condition = c; numbered = refl; fails = h; before = tt })

  pub first_failing : (cs : List SideCondition) (n : ℕ) (c : SideCondition) → get_elem? cs n ≡ some c → (holds ρ c ≡ false) → T (hold_all ρ (take n cs)) → failing ρ cs ≡ some n
  first_failing [] zero c e f h = absurd (none-ne-some c e)
  first_failing [] (suc n) c e f h = absurd (none-ne-some c e)
  first_failing (d ∷ cs) zero c e f h = ap (λ (b : Bool). or_later b (failing ρ cs)) (ap (holds ρ) (some-injective d c e) ∙ f)
  first_failing (d ∷ cs) (suc n) c e f h =
      ap (λ (b : Bool). or_later b (failing ρ cs)) (true_of (holds ρ d) (and_left (holds ρ d) (hold_all ρ (take n cs)) h)) ∙
      ap (λ (o : Option ℕ). o >>= λ k. some (suc k)) (first_failing cs n c e f (and_right (holds ρ d) (hold_all ρ (take n cs)) h))

  -- none does exactly if all hold
  pub none_failing : (cs : List SideCondition) → not (present (failing ρ cs)) ≡ hold_all ρ cs
  none_failing [] = refl
  none_failing (c ∷ cs) = pick (holds ρ c) (failing ρ cs) (none_failing cs)
    where
      pick : (b : Bool) (o : Option ℕ) → not (present o) ≡ hold_all ρ cs → not (present (or_later b o)) ≡ b && hold_all ρ cs
      pick true none e = e
      pick true (some k) e = e
      pick false o e = refl

-- valuations that agree on a left's variables fail at the same one
module _ (left : Term) (σ τ : Valuation) (a : AgreeOn (single left) σ τ) where
  pub failing_agree : (cs : List SideCondition) → T (every (ok_condition left) cs) → failing σ cs ≡ failing τ cs
  failing_agree [] x = refl
  failing_agree (c ∷ cs) x =
      let g = good_condition left c (and_left (ok_condition left c) (every (ok_condition left) cs) x) in
      let p = value_agree (single left) σ τ a c.first g.first_covered in
      let q = value_agree (single left) σ τ a c.second g.second_covered in
      let r = failing_agree cs (and_right (ok_condition left c) (every (ok_condition left) cs) x) in
      cc
