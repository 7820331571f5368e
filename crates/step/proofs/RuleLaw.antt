-- From where a rule's parts stand to what stands there: the left, the conditions and the right of that rule.
use Rattle.std.specs.Prelude.{Result}
use mathlib.Core.Path.{◌≡◌, sym, ◌∙◌, ap, subst⁻¹}
use mathlib.Core.Bool.{Bool, true}
use mathlib.Core.Option.{Option, some}
use mathlib.Core.List.{List, [], ◌∷◌}
use Prim.Native.Nat.{ℕ, ◌+◌, ◌-◌, ◌*◌, ◌≤◌, max}
use native.Mathlib.Nat.{mul-le-mul, le-max_left, le-max_right, max-le}
use native.Mathlib.Omega.{arith}
use lib.IntN.{ℤ}
use lib.Dec.{T}
use lib.ListN.{length, get_elem?}
use borrow.Author.Tests.{le-leb}
use Rattle.minuska.specs.Basics.{◌>>=◌, every}
use Rattle.minuska.specs.Term.{Term, single}
use Rattle.minuska.specs.Word.{encode}
use Rattle.minuska.specs.Satisfaction.{Valuation, SideCondition, Matches}
use Rattle.minuska.specs.Rule.{Rule, Table, ok_rule, ok_condition, IsTable}
use Rattle.minuska.specs.Computed.Match.{unbound}
use Rattle.minuska.specs.Computed.Value.{value}
use Rattle.minuska.specs.Bridge.Walk.{emit}
use Rattle.minuska.specs.Bridge.Place.{Names, left_words, right_words, conditions_words, PartIs, SizesAre}
use Rattle.minuska.proofs.Tests.{and_left, and_right}
use Rattle.minuska.proofs.WordLaw.{encode_length}
use Rattle.minuska.proofs.Good.{good, good_condition}
use Rattle.minuska.proofs.StepLaw.{rule_okay}
use Rattle.minuska.proofs.MatchLaw.{match_sound, matches_binds}
use Rattle.minuska.proofs.ConditionLaw.{has_value}
use Rattle.minuska.proofs.Bridge.WriteLaw.{emit_values}
use Rattle.minuska.proofs.Bridge.AcceptedLaw.{configuration_most}
use Rattle.minuska.proofs.Bridge.SizeLaw.{sizes_few}
use Rattle.step.specs.Apply.{Matched, SomeMatched, MatchIs, HoldIs, FitsIs, WordsFit, WriteIs}
use Rattle.step.specs.Matching.{IsLeft, LeftIn, MatchContract}
use Rattle.step.specs.Conditions.{SidesWorth, StandingConditions, SomeConditions, HoldAllIs}
use Rattle.step.specs.Right.{Rest, SomeRest, MeasureRightIs, FittingRest, WriteRightIs}
use Rattle.step.proofs.RoomLaw.{words_most}

-- the greater of two numbers is at least each, and at most both together
pub greater_of_two : {a b r : ℕ} → r ≡ max a b → (a ≤ r) × (b ≤ r) × (r ≤ a + b)
greater_of_two {a} {b} e = subst⁻¹ (λ (n : ℕ). (a ≤ n) × (b ≤ n) × (n ≤ a + b)) e (le-max_left a b, le-max_right a b, max-le (omega arith) (omega arith))

module _ (ws : List ℤ) (n : ℕ) where
  -- ---- the left
  module _ (from to : ℕ) (x : PartIs left_words ws n from to) where
    is_left : (t : Table) (rule : Rule) → IsTable ws t → get_elem? t n ≡ some rule → IsLeft ws from to rule.left
    is_left t rule p e =
        let g = good rule (rule_okay t p.accepted n rule e) in
        record { good = g.left.in_range; symbolic = g.symbolic; stands = x.stands t rule p e; ends = x.ends t rule p e }

    pub left_in : Names ws n → LeftIn ws from to
    left_in a = record { left = a.rule.left; is = is_left a.table a.rule a.is a.numbered }

    pub match_is : (cs : List ℤ) (starts starts' ends' : List ℕ) (r : Result (Unit {0}) ℕ) → MatchContract ws from to cs starts starts' ends' r → MatchIs ws cs n starts' ends' r
    match_is cs starts starts' ends' r m =
        record {
          answer = λ rule g a. (m.each rule.left g (is_left a.table rule a.is a.numbered) a.configuration).answer;
          binds = λ rule g ρ a e. (m.each rule.left g (is_left a.table rule a.is a.numbered) a.configuration).binds ρ e;
        }

  module _ (cs : List ℤ) (starts ends : List ℕ) where
    module _ (rule : Rule) (g : Term) (ρ : Valuation) (m : Matched ws cs n starts ends rule g ρ) where
      okay : T (ok_rule rule)
      okay = rule_okay m.at.table m.at.is.accepted n rule m.at.numbered

      satisfied : Matches ρ (single rule.left) (single g)
      satisfied = (match_sound (single rule.left) (single g) unbound ρ m.matched).0

      sides : (conds : List SideCondition) → T (every (ok_condition rule.left) conds) → SidesWorth ρ conds
      sides [] y = tt
      sides (c ∷ conds) y =
          let k = good_condition rule.left c (and_left (ok_condition rule.left c) (every (ok_condition rule.left) conds) y) in
          let v = matches_binds ρ (single rule.left) (single g) satisfied in
          let s = has_value (single rule.left) ρ v c.first k.first_covered in
          let t = has_value (single rule.left) ρ v c.second k.second_covered in
          (record { good = k.first.in_range; expression = k.first_expression; term = s.0; is = s.1 }, record { good = k.second.in_range; expression = k.second_expression; term = t.0; is = t.1 }, sides conds (and_right (ok_condition rule.left c) (every (ok_condition rule.left) conds) y))

      emits : (h : Term) → value ρ rule.right ≡ some h → emit ρ (single rule.right) ≡ some (encode (single h))
      emits h v = emit_values ρ (single rule.right) ∙ ap (λ (o : Option Term). (o >>= λ t. some (single t)) >>= λ f. some (encode f)) v

      right_worth : (h : Term) × (value ρ rule.right ≡ some h)
      right_worth = has_value (single rule.left) ρ (matches_binds ρ (single rule.left) (single g) satisfied) rule.right (good rule okay).covered

    -- ---- the conditions
    module _ (from to : ℕ) (x : PartIs conditions_words ws n from to) where
      conditions_at : (rule : Rule) (g : Term) (ρ : Valuation) → Matched ws cs n starts ends rule g ρ → StandingConditions ws cs starts ends from to ρ rule.conditions
      conditions_at rule g ρ m =
          record {
            sides = sides rule g ρ m rule.conditions (good rule (okay rule g ρ m)).conditions;
            stands = x.stands m.at.table rule m.at.is m.at.numbered;
            up_to = x.ends m.at.table rule m.at.is m.at.numbered;
            binds = m.binds;
          }

      pub some_conditions : SomeMatched ws cs n starts ends → SomeConditions ws cs starts ends from to
      some_conditions s = record { valuation = s.valuation; conditions = s.rule.conditions; is = conditions_at s.rule s.configuration s.valuation s.is }

      pub hold_is : (r : Result (Unit {0}) ℕ) → HoldAllIs ws cs starts ends from to r → HoldIs ws cs n starts ends r
      hold_is r h = record { is = λ rule g ρ m. h.is ρ rule.conditions (conditions_at rule g ρ m) }

    -- ---- the right
    module _ (from to : ℕ) (x : PartIs right_words ws n from to) where
      right_at : (rule : Rule) (g : Term) (ρ : Valuation) → Matched ws cs n starts ends rule g ρ → (h : Term) → value ρ rule.right ≡ some h → Rest ws cs starts ends from to ρ (single rule.right) (encode (single h))
      right_at rule g ρ m h v =
          let k = good rule (okay rule g ρ m) in
          record {
            good = k.right.in_range;
            shape = k.expression_term;
            stands = x.stands m.at.table rule m.at.is m.at.numbered;
            up_to = x.ends m.at.table rule m.at.is m.at.numbered;
            emits = emits rule g ρ m h v;
            binds = m.binds;
          }

      the_rest : (s : SomeMatched ws cs n starts ends) (h : Term) → value s.valuation s.rule.right ≡ some h → SomeRest ws cs starts ends from to
      the_rest s h v = record { valuation = s.valuation; terms = single s.rule.right; words = encode (single h); is = right_at s.rule s.configuration s.valuation s.is h v }

      pub some_rest : SomeMatched ws cs n starts ends → SomeRest ws cs starts ends from to
      some_rest s = let (h, v) = right_worth s.rule s.configuration s.valuation s.is in the_rest s h v

      pub fitting_rest : (room : ℕ) → SomeMatched ws cs n starts ends → WordsFit ws cs n starts ends room → FittingRest ws cs starts ends from to room
      fitting_rest room s k =
          let (h, v) = right_worth s.rule s.configuration s.valuation s.is in
          record { rest = record { valuation = s.valuation; terms = single s.rule.right; words = encode (single h); is = right_at s.rule s.configuration s.valuation s.is h v }; fit = k.fit s.rule s.configuration s.valuation h s.is v }

      pub measured_is : (room : ℕ) (r : Bool) → MeasureRightIs ws cs starts ends from to room r → FitsIs ws cs n starts ends room r
      measured_is room r k = record { is = λ rule g ρ h m v. k.is ρ (single rule.right) (encode (single h)) (right_at rule g ρ m h v) }

      pub write_is : (out out' : List ℤ) (r : ℕ) → WriteRightIs ws cs starts ends from to out out' r → WriteIs ws cs n starts ends out out' r
      write_is out out' r k =
          record { is = λ rule g ρ h m v. k.is ρ (single rule.right) (encode (single h)) (right_at rule g ρ m h v); many = λ rule g ρ h m v. k.many ρ (single rule.right) (encode (single h)) (right_at rule g ρ m h v) }

    -- ---- its sizes: what they show, and that they are small
    module _ (fixed leaves : ℕ) (x : SizesAre ws n fixed leaves) (from to : ℕ) (y : PartIs right_words ws n from to) (most : ℕ) where
      pub shown_is : length cs ≤ most → to - from ≤ most → (room : ℕ) → 2 * fixed + leaves * most ≤ room → FitsIs ws cs n starts ends room true
      shown_is long wide room k =
          record {
            is = λ rule g ρ h m v.
                let e = y.ends m.at.table rule m.at.is m.at.numbered in
                let w : length (encode (single rule.right)) ≤ most = omega (arith, e) in
                let all = words_most cs starts ends ρ m.binds most long (single rule.right) (encode (single h)) (good rule (okay rule g ρ m)).expression_term w (emits rule g ρ m h v) in
                let few : length (encode (single h)) ≤ 2 * fixed + leaves * most = rw (x.ones m.at.table rule m.at.is m.at.numbered, x.variables m.at.table rule m.at.is m.at.numbered) all in
                sym (le-leb (length (encode (single h))) room (omega arith));
          }

      -- the right's words are few, and so is what its sizes show
      pub right_few : SomeMatched ws cs n starts ends → (from ≤ to) × (to - from ≤ 1024)
      right_few s =
          let a = s.is.at in
          let e = y.ends a.table s.rule a.is a.numbered in
          let t = s.rule.right in
          let small = (good s.rule (okay s.rule s.configuration s.valuation s.is)).right.small in
          let q = encode_length (single t) in
          (omega arith, omega (arith, e, small, q))

      pub sizes_small : most ≤ length cs + (to - from) → SomeMatched ws cs n starts ends → (fixed ≤ 2048) × (leaves * most ≤ 2048 * 66560)
      sizes_small h s =
          let a = s.is.at in
          let p = x.ones a.table s.rule a.is a.numbered in
          let q = x.variables a.table s.rule a.is a.numbered in
          let k = sizes_few (single s.rule.right) in
          let small = (good s.rule (okay s.rule s.configuration s.valuation s.is)).right.small in
          let c = configuration_most cs s.configuration a.configuration in
          let few = (right_few s).1 in
          (omega arith, mul-le-mul {n₂ = 2048} {m₂ = 66560} (omega arith) (omega arith))
