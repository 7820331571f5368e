-- Why no rule applies, as an answer: the ways out of `list_reasons`.
use Rattle.minuska.specs.declared.Row.{Row}
use Rattle.std.specs.Prelude.{Option as StdOption, Some, None, Ok, Err, All}
use mathlib.Core.Path.{◌≡◌, refl, sym, ◌∙◌, ap, subst⁻¹}
use mathlib.Core.Bool.{Bool, true, false, cond}
use mathlib.Core.Option.{Option, none, some}
use mathlib.Core.List.{List}
use Prim.Native.Nat.{ℕ, ◌*◌, ◌≤◌, ◌<◌}
use native.Mathlib.Omega.{arith}
use lib.Dec.{ltb}
use lib.IntN.{ℤ}
use lib.ListN.{length, take, get_or, get_elem?, replicate, length-replicate, get_or-replicate}
use borrow.Author.Tests.{lt-ltb, le-ltb}
use Rattle.minuska.specs.Term.{Term}
use Rattle.minuska.specs.Obstacle.{Reason, left_differs, condition_fails}
use Rattle.minuska.specs.Rule.{Rule, Table}
use Rattle.minuska.specs.Answer.{Outcome, refused, gives, ReasonsResult, listed, not_stuck}
use Rattle.minuska.specs.declared.Refusal.TheVariants.{ShortBuffer}
use Rattle.minuska.specs.Slice.{write, reasons_answer, reasons_list}
use Rattle.minuska.specs.Computed.Step.{earliest}
use Rattle.minuska.specs.Computed.Reasons.{reasons_of, listed_unless, reasons}
use Rattle.minuska.specs.Computed.Outcome.{tested, list_tests, reasons_outcome}
use Rattle.minuska.specs.Bridge.Place.{Indexed, Accepted, RuleCountIs}
use Rattle.minuska.specs.Contract.{ReasonsContract}
use Rattle.minuska.proofs.ShutLaw.{reasons_is, reasons_outcome_is}
use Rattle.minuska.proofs.OutcomeLaw.{on_words_lem}
use Rattle.minuska.proofs.ContractLaw.{reasons_contract}
use Rattle.minuska.proofs.StepLaw.{stuck_iff, rule_okay}
use Rattle.minuska.proofs.OrderLaw.{named_below}
use Rattle.minuska.proofs.ReasonsLaw.{AllHave, all_have, reasons_length, reasons_at}
use Rattle.minuska.proofs.Bridge.PositionLaw.{few_rules, element_there}
use Rattle.step.specs.declared.rule.Obstacle.{Obstacle}
use Rattle.step.specs.declared.rule.Obstacle.TheVariants.{Left}
use Rattle.step.specs.Apply.{Candidate}
use Rattle.step.specs.Verdict.{obstacle_of}
use Rattle.step.specs.Reasons.{found_as, Fresh, JudgeAllIs, IsSmall, obstacle_words, PutAllIs}
use Rattle.step.proofs.PuttingLaw.{obstacles_of, obstacles_are, words_of}
use Rattle.std.specs.Option.{is_some}
use Rattle.std.proofs.lemmas.List.{get_or-take, length-take-le}
use Rattle.std.proofs.lemmas.List.Elements.{All-from_get_or}
use Rattle.minuska.specs.Rule.{ok_rule}
use Rattle.minuska.specs.Computed.Reasons.{reason}
use Rattle.minuska.proofs.Good.{good}
use Rattle.minuska.proofs.ObstacleLaw.{place_below, number_below_lem}
use lib.Dec.{T}

-- a list of first nodes that disagree
pub all_fresh : Fresh (replicate 256 (Left 0))
all_fresh = record { room = omega (arith, length-replicate {A = Obstacle} 256 (Left 0)); each = λ n h. get_or-replicate 256 n (Left 0) (Left 0) h }

-- whether a rule was found, by its test
pub is_not_found : (r : StdOption ℕ) → is_some r ≡ false → r ≡ None
is_not_found None e = refl
is_not_found (Some n) e = cc

pub is_found : (r : StdOption ℕ) → is_some r ≡ true → (n : ℕ) × (r ≡ Some n)
is_found None e = cc
is_found (Some n) e = (n, refl)

-- the earliest rule, read back
found_rule : (n : ℕ) (p : Option (ℕ × Term)) (os : List Reason) → Some n ≡ found_as p → listed_unless p os ≡ not_stuck n
found_rule n none os e = cc
found_rule n (some mh) os e = ap not_stuck (let z : mh.0 ≡ n = cc in z)

found_none : (p : Option (ℕ × Term)) → None ≡ found_as p → p ≡ none
found_none none e = refl
found_none (some mh) e = cc

module _ (ws cs : List ℤ) (index : List Row) (list : List ℤ) (x : Indexed ws index) (y : Accepted cs) (count : ℕ) (c : RuleCountIs ws count) where
  abbrev t : Table
  t = x.table

  abbrev g : Term
  g = y.term

  outcome_by : (b : Bool) → ltb (length list) (2 * length t) ≡ b → reasons_outcome ws cs (length list) ≡ cond b (refused ShortBuffer) (gives (listed_unless (earliest t g) (reasons_of t g)))
  outcome_by b e =
      reasons_outcome_is ws cs (length list) ∙
      (on_words_lem ws cs t g x.is y.is (λ u h. tested (list_tests (length list) u) (reasons u h)) ∙
      (ap (λ (z : Bool). cond z (refused ShortBuffer) (gives (reasons t g))) e ∙ ap (λ (z : ReasonsResult). cond b (refused ShortBuffer) (gives z)) (reasons_is t g)))

  pub short_list : length list < 2 * count → ReasonsContract ws cs list list (Err ShortBuffer)
  unfolding reasons_answer reasons_list
  short_list h =
      let e = c.is t x.is in
      let o : reasons_outcome ws cs (length list) ≡ refused ShortBuffer = outcome_by true (lt-ltb (length list) (2 * length t) (omega arith)) in
      reasons_contract ws cs list list (Err ShortBuffer) (ap reasons_answer (sym o)) (ap (λ (z : Outcome ReasonsResult). reasons_list z list) (sym o))

  module _ (room : 2 * count ≤ length list) where
    outcome_found : reasons_outcome ws cs (length list) ≡ gives (listed_unless (earliest t g) (reasons_of t g))
    outcome_found = let e = c.is t x.is in outcome_by false (le-ltb (length list) (2 * length t) (omega arith))

    module _ (obstacles : List Obstacle) (r : StdOption ℕ) (j : JudgeAllIs ws cs obstacles r) where
      pub not_stuck_lem : {n : ℕ} → r ≡ Some n → ReasonsContract ws cs list list (Ok r)
      unfolding reasons_answer reasons_list
      not_stuck_lem {n} e =
          let o : reasons_outcome ws cs (length list) ≡ gives (not_stuck n) = outcome_found ∙ ap {B = Outcome ReasonsResult} gives (found_rule n (earliest t g) (reasons_of t g) (sym e ∙ j.answer t g x.is y.is)) in
          reasons_contract ws cs list list (Ok r) (ap Ok e ∙ ap reasons_answer (sym o)) (ap (λ (z : Outcome ReasonsResult). reasons_list z list) (sym o))

      -- stuck: each rule has an obstacle, and it is small
      module _ (e : r ≡ None) where
        none_found : earliest t g ≡ none
        none_found = found_none (earliest t g) (sym e ∙ j.answer t g x.is y.is)

        all : AllHave g t
        all = all_have t x.is.accepted g ((stuck_iff t x.is.accepted g).0 none_found)

        -- rule by rule
        each : (n : ℕ) (o : Reason) → get_elem? (reasons_of t g) n ≡ some o → (get_or obstacles n (Left 0) ≡ obstacle_of o) × IsSmall (obstacle_of o)
        each n o q =
            let m = reasons_length g t all in
            let (rule, p) = element_there t n (omega (arith, named_below (reasons_of t g) n o q)) in
            let k : Candidate ws cs n rule g = record { table = t; is = x.is; numbered = p; configuration = y.is } in
            let f : reason rule g ≡ some o = sym (reasons_at g t all n rule p) ∙ q in
            (j.leaves e n rule g o k f, small rule (rule_okay t x.is.accepted n rule p) o f)
          where
            small : (rule : Rule) → T (ok_rule rule) → (o : Reason) → reason rule g ≡ some o → IsSmall (obstacle_of o)
            small rule okay (left_differs m) f = omega (arith, place_below rule g okay m f, (good rule okay).left.small)
            small rule okay (condition_fails m) f = omega (arith, number_below_lem rule g okay m f, (good rule okay).few)

        many : (count ≤ length obstacles) × (count ≡ length (reasons_of t g))
        many = let l = c.is t x.is in let m = reasons_length g t all in (omega (arith, few_rules t x.is.accepted, j.room), omega arith)

        pub listed_are : take count obstacles ≡ obstacles_of (reasons_of t g)
        listed_are =
            obstacles_are (take count obstacles) (reasons_of t g) (length-take-le count obstacles many.0 ∙ many.1)
            (λ n o q. get_or-take count obstacles n (Left 0) (omega (arith, many.1, named_below (reasons_of t g) n o q)) ∙ (each n o q).0)

        pub listed_small : All IsSmall (take count obstacles)
        listed_small =
            All-from_get_or IsSmall (take count obstacles) (Left 0)
            (λ n h.
            let b : n < count = omega (arith, length-take-le count obstacles many.0) in
            let (o, q) = element_there (reasons_of t g) n (omega (arith, many.1)) in
            let (s, y) = each n o q in
            subst⁻¹ IsSmall (get_or-take count obstacles n (Left 0) b ∙ s) y)

        pub all_listed : (list' : List ℤ) → PutAllIs (take count obstacles) list list' → ReasonsContract ws cs list list' (Ok r)
        unfolding reasons_answer reasons_list
        all_listed list' w =
            let o : reasons_outcome ws cs (length list) ≡ gives (listed (reasons_of t g)) = outcome_found ∙ ap (λ (p : Option (ℕ × Term)). gives (listed_unless p (reasons_of t g))) none_found in
            reasons_contract ws cs list list' (Ok r) (ap Ok e ∙ ap reasons_answer (sym o)) (w.is ∙ (ap (λ (ws : List ℤ). write ws list) (ap obstacle_words listed_are ∙ words_of (reasons_of t g)) ∙ ap (λ (z : Outcome ReasonsResult). reasons_list z list) (sym o)))
