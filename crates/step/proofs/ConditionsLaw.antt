-- A rule's conditions, one after the other: the turns of `hold_all`.
use mathlib.Core.Path.{◌≡◌, refl, sym, ◌∙◌, ap, subst}
use Rattle.std.specs.Prelude.{Ok, Err}
use mathlib.Core.Bool.{Bool, true, false, cond}
use mathlib.Core.Option.{Option, none, some}
use mathlib.Core.List.{List, [], ◌∷◌, ◌++◌}
use Prim.Native.Nat.{ℕ, suc, ◌+◌, ◌≤◌, ◌<◌}
use native.Mathlib.Nat.{add-zero}
use native.Mathlib.Omega.{arith}
use lib.IntN.{ℤ}
use lib.ListN.{length, length-append}
use Rattle.minuska.specs.Term.{Term, single}
use Rattle.minuska.specs.Word.{encode}
use Rattle.minuska.specs.Satisfaction.{Valuation, SideCondition}
use Rattle.minuska.specs.Rule.{condition_words}
use Rattle.minuska.specs.Basics.{◌>>=◌}
use Rattle.minuska.specs.Computed.Reasons.{failing}
use Rattle.minuska.specs.Bridge.Place.{Stands}
use Rattle.minuska.proofs.Bridge.PlaceLaw.{stands_first, stands_second}
use Rattle.value.specs.declared.Tested.{Tested}
use Rattle.value.specs.Evaluate.{HasValue, ConditionAt, ConditionIn, ConditionContract}
use Rattle.step.specs.Conditions.{failed_by, SideWorth, StandingConditions, SomeConditions, HoldAllIs}

-- ---- the first that fails, of conditions behind some that hold
abbrev behind : ℕ → Option ℕ → Option ℕ
behind n none = none
behind n (some k) = some (n + k)

behind_one : (k : ℕ) (o : Option ℕ) → behind k (o >>= λ m. some (suc m)) ≡ behind (k + 1) o
behind_one k none = refl
behind_one k (some m) = ap some (let e : k + suc m ≡ k + 1 + m = omega arith in e)

module _ (ws cs : List ℤ) (starts ends : List ℕ) (end i : ℕ) (ρ : Valuation) (c : SideCondition) (later : List SideCondition) (x : StandingConditions ws cs starts ends i end ρ (c ∷ later)) where
  abbrev A : List ℤ
  A = encode (single c.first)

  abbrev B : List ℤ
  B = encode (single c.second)

  has_at : (at : ℕ) (e : Term) (s : SideWorth ρ e) → Stands ws at (encode (single e)) → HasValue ws cs starts ends at ρ e s.term
  has_at at e s h = record { placed = record { good = s.good; expressions = s.expression; stands = h; binds = x.binds }; is = s.is }

  -- the first condition
  pub first_condition : ConditionAt ws cs starts ends i ρ c
  first_condition =
      let (s, t, rest) = x.sides in
      let h = stands_second A (B ++ condition_words later) x.stands in
      record {
        first = s.term;
        second = t.term;
        first_has = has_at i c.first s (stands_first A (B ++ condition_words later) x.stands);
        second_has = has_at (i + length A) c.second t (stands_first B (condition_words later) h);
      }

  module _ (r : Tested) (y : ConditionContract ws cs starts ends i r) where
    pub next_is : r.next ≡ i + length A + length B
    next_is = (y.meant ρ c first_condition).next

    -- those behind it
    pub later_conditions : StandingConditions ws cs starts ends r.next end ρ later
    later_conditions =
        record {
          sides = x.sides.2;
          stands = subst (λ (n : ℕ). Stands ws n (condition_words later)) (sym next_is) (stands_second B (condition_words later) (stands_second A (B ++ condition_words later) x.stands));
          up_to = x.up_to ∙ omega (arith, next_is, length-append A (B ++ condition_words later), length-append B (condition_words later));
          binds = x.binds;
        }

    pub holds_as : (b : Bool) → r.holds ≡ b → failing ρ (c ∷ later) ≡ cond b (failing ρ later >>= λ k. some (suc k)) (some 0)
    holds_as b e = ap (λ (x : Bool). cond x (failing ρ later >>= λ k. some (suc k)) (some 0)) (sym (y.meant ρ c first_condition).holds ∙ e)

    pub goes_forward : i < r.next
    goes_forward = omega (arith, next_is)

module _ (ws cs : List ℤ) (starts ends : List ℕ) (at end : ℕ) where
  -- how far the conditions have held: k of them, and the rest stands from place i on
  pub record Holding (i k : ℕ) : Type 0 where
    pub rest : (ρ : Valuation) (conds : List SideCondition) → StandingConditions ws cs starts ends at end ρ conds → (later : List SideCondition) × StandingConditions ws cs starts ends i end ρ later × (failing ρ conds ≡ behind k (failing ρ later))

  -- a place before the end: a condition stands there
  some_later : (i : ℕ) (ρ : Valuation) (later : List SideCondition) → StandingConditions ws cs starts ends i end ρ later → i < end → (c : SideCondition) × (more : List SideCondition) × (later ≡ c ∷ more)
  some_later i ρ [] x h = absurd (let e = x.up_to in let f : ⊥ = omega arith in f)
  some_later i ρ (c ∷ more) x h = (c, more, refl)

  none_later : (i : ℕ) (ρ : Valuation) (later : List SideCondition) → StandingConditions ws cs starts ends i end ρ later → end ≤ i → failing ρ later ≡ none
  none_later i ρ [] x h = refl
  none_later i ρ (c ∷ more) x h = absurd (let e = x.up_to in let f : ⊥ = omega (arith, length-append (encode (single c.first)) (encode (single c.second) ++ condition_words more)) in f)

  module _ (i k : ℕ) (m : Holding i k) where
    pub all_held : end ≤ i → HoldAllIs ws cs starts ends at end (Ok tt)
    all_held h = record { is = λ ρ conds x. let (later, y, e) = m.rest ρ conds x in ap failed_by (sym (e ∙ ap (behind k) (none_later i ρ later y h))) }

    module _ (below : i < end) where
      -- the condition there, of a rest that there is
      next_condition : (ρ : Valuation) (conds : List SideCondition) → StandingConditions ws cs starts ends at end ρ conds → (c : SideCondition) × (more : List SideCondition) × StandingConditions ws cs starts ends i end ρ (c ∷ more) × (failing ρ conds ≡ behind k (failing ρ (c ∷ more)))
      next_condition ρ conds x =
          let (later, y, e) = m.rest ρ conds x in
          let (c, more, p) = some_later i ρ later y below in
          (c, more, subst (StandingConditions ws cs starts ends i end ρ) p y, e ∙ ap (λ (l : List SideCondition). behind k (failing ρ l)) p)

      pub condition_needs : SomeConditions ws cs starts ends at end → ConditionIn ws cs starts ends i
      condition_needs s =
          let (c, more, y, e) = next_condition s.valuation s.conditions s.is in
          record { valuation = s.valuation; condition = c; stands = first_condition ws cs starts ends end i s.valuation c more y }

      module _ (r : Tested) (z : ConditionContract ws cs starts ends i r) where
        pub holding_on : r.holds ≡ true → Holding r.next (k + 1)
        holding_on h =
            record { rest = λ ρ conds x. let (c, more, y, e) = next_condition ρ conds x in (more, later_conditions ws cs starts ends end i ρ c more y r z, e ∙ (ap (behind k) (holds_as ws cs starts ends end i ρ c more y r z true h) ∙ behind_one k (failing ρ more))) }

        pub not_held : r.holds ≡ false → HoldAllIs ws cs starts ends at end (Err k)
        not_held h = record { is = λ ρ conds x. let (c, more, y, e) = next_condition ρ conds x in ap failed_by (sym (e ∙ (ap (behind k) (holds_as ws cs starts ends end i ρ c more y r z false h) ∙ ap some (add-zero k)))) }

        pub holding_forward : SomeConditions ws cs starts ends at end → i < r.next
        holding_forward s = let (c, more, y, e) = next_condition s.valuation s.conditions s.is in goes_forward ws cs starts ends end i s.valuation c more y r z
