-- Rules tried one after the other: what each turn of `apply_among` says, and the two steps from it.
use Rattle.minuska.specs.declared.Row.{Row}
use Rattle.std.specs.Prelude.{Option as StdOption, None, Result, Ok, Err}
use Rattle.minuska.specs.declared.Refusal.{Refusal}
use Rattle.minuska.specs.declared.Stepped.{Stepped}
use mathlib.Core.Path.{◌≡◌, refl, sym, ◌∙◌, ap, ap₂, subst}
use mathlib.Core.Bool.{Bool, true, false, cond}
use mathlib.Core.Option.{Option, none, some, none-ne-some, some-injective}
use mathlib.Core.List.{List, [], ◌∷◌}
use Prim.Native.Nat.{ℕ, zero, suc, ◌+◌, ◌-◌, ◌≤◌, ◌<◌}
use native.Mathlib.Numerals.{add-one}
use native.Mathlib.Omega.{arith}
use lib.IntN.{ℤ}
use lib.ListN.{length, take, drop, get_or, get_elem?}
use lib.Seq.{take_all}
use Rattle.minuska.specs.Basics.{◌>>=◌}
use Rattle.minuska.specs.Term.{Term, single}
use Rattle.minuska.specs.Satisfaction.{Valuation}
use Rattle.minuska.specs.Rule.{Rule, Table, IsTable, IsConfiguration}
use Rattle.minuska.specs.Slice.{out_limit, step_answer, step_out}
use Rattle.minuska.specs.Answer.{Outcome, gives, StepResult, stuck}
use Rattle.minuska.specs.Computed.Match.{try_match, unbound}
use Rattle.minuska.specs.Computed.Value.{value, hold_all}
use Rattle.minuska.specs.Computed.Step.{successor, successor_by, answered, with_number, sized, action_in, or_next, first_of, order, step}
use Rattle.minuska.specs.Computed.Outcome.{rule_outcome, step_outcome}
use Rattle.minuska.specs.Bridge.Place.{Indexed, Names, Accepted, RuleCountIs, OrderedIs, Positions, RootKeyIs, SeekIs}
use Rattle.minuska.specs.Contract.{StepByRuleContract, StepContract}
use Rattle.minuska.proofs.Tests.{came}
use Rattle.minuska.proofs.ShutLaw.{step_is_lem, step_outcome_is}
use Rattle.minuska.proofs.OutcomeLaw.{on_words_lem}
use Rattle.minuska.proofs.ContractLaw.{step_by_rule_contract, step_contract}
use Rattle.minuska.proofs.Bridge.IndexLaw.{one_table}
use Rattle.minuska.proofs.Bridge.RootLaw.{root_misses}
use Rattle.minuska.proofs.Bridge.PositionLaw.{element_at, element_there, order_length, order_names}
use Rattle.table.specs.Candidate.{Unnamed, FirstIs}
use Rattle.table.proofs.IndexLaw.{positions_of}
use Rattle.step.specs.declared.rule.Obstacle.{Obstacle}
use Rattle.step.specs.Apply.{Candidate, Matched, SomeMatched, Instantiated}
use Rattle.step.specs.Verdict.{VerdictIs, JudgeIs}
use Rattle.step.specs.Among.{positions, KeyFor, verdict_told, AmongIs}
use Rattle.step.proofs.ApplyLaw.{outcome_by, step_by, instantiated_answer, instantiated_out_lem, unmatched, verdict_applies}

-- ---- the order from a position on
at_position : {A : Type 0} (l : List A) (i : ℕ) (a : A) → get_elem? l i ≡ some a → drop i l ≡ a ∷ drop (suc i) l
at_position {A} [] i a e = absurd (none-ne-some a e)
at_position {A} (b ∷ l) zero a e = ap (λ (x : A). x ∷ l) (some-injective b a e)
at_position {A} (b ∷ l) (suc i) a e = at_position l i a e

module _ (t : Table) (i to : ℕ) where
  pub positions_none : to ≤ i → positions i to t ≡ []
  positions_none h = ap (λ (k : ℕ). take k (drop i (order t))) (let e : to - i ≡ 0 = omega arith in e)

  positions_at : (n : ℕ) → i < to → get_elem? (order t) i ≡ some n → positions i to t ≡ n ∷ positions (i + 1) to t
  positions_at n below f =
      let k : to - i ≡ suc (to - (i + 1)) = omega arith in
      ap₂ (λ (x : ℕ) (l : List ℕ). take x l) k (at_position (order t) i n f) ∙ ap (λ (y : ℕ). n ∷ take (to - (i + 1)) (drop y (order t))) (sym (add-one i))

  pub positions_next : {ws : List ℤ} {n : ℕ} → IsTable ws t → Positions ws to → i < to → OrderedIs ws i n → positions i to t ≡ n ∷ positions (i + 1) to t
  positions_next {ws} {n} p s below o =
      let k = s.there t p in
      let (m, f) = element_there (order t) i (omega arith) in
      positions_at n below (subst (λ (x : ℕ). get_elem? (order t) i ≡ some x) (sym (o.is t p m f)) f)

pub positions_all : (t : Table) (count : ℕ) → count ≡ length t → positions 0 count t ≡ order t
positions_all t count e = take_all (count - 0) (order t) (omega (arith, order_length t))

-- ---- a rule has a successor, or none, by its verdict
module _ (ws cs : List ℤ) (n : ℕ) (a : Names ws n) where
  abbrev pub candidate : (t : Table) (g : Term) → IsTable ws t → IsConfiguration cs g → Candidate ws cs n a.rule g
  candidate t g p q =
      record { table = t; is = p; numbered = subst (λ (u : Table). get_elem? u n ≡ some a.rule) (one_table ws a.table t a.is p) a.numbered; configuration = q }

  module _ (r : Result (Unit {0}) Obstacle) (w : VerdictIs ws cs n r) (t : Table) (g : Term) (p : IsTable ws t) (q : IsConfiguration cs g) where
    by_number : successor_by t n g ≡ successor a.rule g
    by_number = ap (λ (z : Option Rule). z >>= λ x. successor x g) (candidate t g p q).numbered

    pub verdict_some : {u : Unit {0}} → r ≡ Ok u → (h : Term) × (successor_by t n g ≡ some h)
    verdict_some e =
        let c = candidate t g p q in
        let (h, s) = (verdict_applies ws cs n a.rule g c).0 (sym (w.is a.rule g c) ∙ e) in (h, by_number ∙ s)

    pub verdict_none : {o : Obstacle} → r ≡ Err o → successor_by t n g ≡ none
    verdict_none f = by_number ∙ go (successor a.rule g) refl
      where
        go : (s : Option Term) → successor a.rule g ≡ s → successor a.rule g ≡ none
        go none e = e
        go (some h) e = let c = candidate t g p q in absurd (let z = sym f ∙ (w.is a.rule g c ∙ (verdict_applies ws cs n a.rule g c {u = tt}).1 (h, e)) in cc)

  module _ (starts ends : List ℕ) (r : Result (Unit {0}) Obstacle) (j : JudgeIs ws cs n starts ends r) where
    -- ---- a rule that applies: its match, and its right's value
    module _ {u : Unit {0}} (e : r ≡ Ok u) (t : Table) (g : Term) (p : IsTable ws t) (q : IsConfiguration cs g) where
      record Applying : Type 0 where
        valuation : Valuation
        term : Term
        matched : Matched ws cs n starts ends a.rule g valuation
        worth : value valuation a.rule.right ≡ some term
        stepped : successor a.rule g ≡ some term

      applying : Applying
      applying =
          let c = candidate t g p q in
          let (h, s) = (verdict_applies ws cs n a.rule g c).0 (sym (j.verdict.is a.rule g c) ∙ e) in
          let (ρ, m, v) = came (try_match (single a.rule.left) (single g) unbound) (λ ρ. cond (hold_all ρ a.rule.conditions) (value ρ a.rule.right) none) h s in
          record { valuation = ρ; term = h; matched = record { at = c; matched = m; binds = j.binds a.rule g ρ c m }; worth = worth_of (hold_all ρ a.rule.conditions) (value ρ a.rule.right) h v; stepped = s }
        where
          worth_of : (b : Bool) (v : Option Term) (h : Term) → cond b v none ≡ some h → v ≡ some h
          worth_of true v h x = x
          worth_of false v h x = absurd (none-ne-some h x)

    pub judged_matched : {u : Unit {0}} → r ≡ Ok u → {index : List Row} → Indexed ws index → Accepted cs → SomeMatched ws cs n starts ends
    judged_matched e x y =
        let z = applying e x.table y.term x.is y.is in record { rule = a.rule; configuration = y.term; valuation = z.valuation; is = z.matched }

-- ---- positions that are passed over: the rules there do not apply
module _ (ws cs : List ℤ) (root from to r : ℕ) (s : SeekIs ws root from to r) (b : Positions ws to) (key : KeyFor cs to root) (t : Table) (g : Term) (p : IsTable ws t) (q : IsConfiguration cs g) where
  passed_none : (i n : ℕ) → from ≤ i → i < r → get_elem? (order t) i ≡ some n → successor_by t n g ≡ none
  passed_none i n low below f =
      let k = b.there t p in
      let h : i < length (order t) = let z = s.high in omega arith in
      let e : get_or (order t) i 0 ≡ n = some-injective (get_or (order t) i 0) n (sym (element_at (order t) 0 i h) ∙ f) in
      let (rule, x) = element_there t n (omega (arith, order_names t i h)) in
      unmatched ws cs n rule g (record { table = t; is = p; numbered = x; configuration = q }) (root_misses rule.left g (s.passed.differ t rule g i n p ((key.is (let z = s.high in omega arith)).is g q) low below f x))

  skip : (d i : ℕ) → i + d ≡ r → from ≤ i → first_of t (positions i to t) g ≡ first_of t (positions r to t) g
  skip zero i e low = ap (λ (k : ℕ). first_of t (positions k to t) g) (let h : i ≡ r = omega arith in h)
  skip (suc d) i e low =
      let k = b.there t p in
      let z = s.high in
      let (n, f) = element_there (order t) i (omega arith) in
      ap (λ (l : List ℕ). first_of t l g) (positions_at t i to n (omega arith) f) ∙
      (ap (λ (x : Option Term). or_next n x (first_of t (positions (i + 1) to t) g)) (passed_none i n low (omega arith) f) ∙ skip d (i + 1) (omega arith) (omega arith))

  pub sought : first_of t (positions from to t) g ≡ first_of t (positions r to t) g
  sought = let z = s.low in skip (r - from) from (omega arith) (omega arith)

-- ---- a rule, then those at positions
module _ (ws cs : List ℤ) (first from to : ℕ) where
  -- the rules before this one, at the position before i, do not apply; with no positions there is only the first
  pub record Trying (rule i : ℕ) : Type 0 where
    pub low : from ≤ i
    pub only : from ≡ to → rule ≡ first
    pub same : (t : Table) (g : Term) → IsTable ws t → IsConfiguration cs g → first_of t (first ∷ positions from to t) g ≡ first_of t (rule ∷ positions i to t) g

  pub trying_first : Trying first from
  trying_first = record { low = omega arith; only = λ e. refl; same = λ t g p q. refl }

  -- of a rule alone its verdict is told
  pub alone_by : {rule i : ℕ} → Trying rule i → {starts ends : List ℕ} {v : Result (Unit {0}) Obstacle} → JudgeIs ws cs rule starts ends v → {v' : Result (Unit {0}) Obstacle} → v' ≡ v → from ≡ to → VerdictIs ws cs first v'
  alone_by k j e same = record { is = λ rule g c. e ∙ j.verdict.is rule g (subst (λ (n : ℕ). Candidate ws cs n rule g) (sym (k.only same)) c) }

  module _ (rule i : ℕ) (k : Trying rule i) where
    module _ (f : (t : Table) (g : Term) → IsTable ws t → IsConfiguration cs g → successor_by t rule g ≡ none) (root r : ℕ) (s : SeekIs ws root i to r) (b : Positions ws to) (key : KeyFor cs to root) where
      behind : (t : Table) (g : Term) → IsTable ws t → IsConfiguration cs g → first_of t (first ∷ positions from to t) g ≡ first_of t (positions r to t) g
      behind t g p q = k.same t g p q ∙ (ap (λ (z : Option Term). or_next rule z (first_of t (positions i to t) g)) (f t g p q) ∙ sought ws cs root i to r s b key t g p q)

      pub trying_on : (n i' : ℕ) → r < to → OrderedIs ws r n → i' ≡ r + 1 → Trying n i'
      trying_on n i' below o e =
          let l = k.low in
          let m = s.low in
          record { low = omega arith; only = λ e. absurd (let z : ⊥ = omega arith in z); same = λ t g p q. behind t g p q ∙ ap (λ (l : List ℕ). first_of t l g) (positions_next t r to p b below o ∙ ap (λ (j : ℕ). n ∷ positions j to t) (sym e)) }

      pub none_applies : (out : List ℤ) (o : Obstacle) → to ≤ r → (from ≡ to → VerdictIs ws cs first (Err o)) → AmongIs ws cs first from to out out o (Ok None)
      unfolding step_answer step_out
      none_applies out o past a =
          record { alone = a; answer = λ t g p q. ap step_answer (sym (nothing t g p q)); leaves = λ t g p q. ap (λ (z : Outcome StepResult). step_out z out) (sym (nothing t g p q)) }
        where
          nothing : (t : Table) (g : Term) → IsTable ws t → IsConfiguration cs g → gives (answered t (out_limit (length out)) (first_of t (first ∷ positions from to t) g)) ≡ gives stuck
          nothing t g p q = ap (λ (z : Option (ℕ × Term)). gives (answered t (out_limit (length out)) z)) (behind t g p q ∙ ap (λ (l : List ℕ). first_of t l g) (positions_none t r to past))

    -- this one applies
    module _ (a : Names ws rule) (starts ends : List ℕ) (v : Result (Unit {0}) Obstacle) (j : JudgeIs ws cs rule starts ends v) {u : Unit {0}} (e : v ≡ Ok u) (out out' : List ℤ) (r : Result Stepped Refusal) (w : Instantiated ws cs rule starts ends out out' r) where
      abbrev limit : ℕ
      limit = out_limit (length out)

      outcome : (t : Table) (g : Term) (p : IsTable ws t) (q : IsConfiguration cs g) → gives (answered t limit (first_of t (first ∷ positions from to t) g)) ≡ gives (sized limit rule a.rule.action (applying ws cs rule a starts ends v j e t g p q).term)
      outcome t g p q =
          let z = applying ws cs rule a starts ends v j e t g p q in
          let c = candidate ws cs rule a t g p q in
          let s : successor_by t rule g ≡ some z.term = ap (λ (x : Option Rule). x >>= λ y. successor y g) c.numbered ∙ z.stepped in
          ap (λ (x : Option (ℕ × Term)). gives (answered t limit x)) (k.same t g p q ∙ ap (λ (x : Option Term). or_next rule x (first_of t (positions i to t) g)) s) ∙
          ap (λ (x : Option Rule). gives (sized limit rule (action_in x) z.term)) c.numbered

      pub one_applies : {last : Obstacle} {r' : Result (StdOption Stepped) Refusal} → r' ≡ step_by r → verdict_told r' last ≡ Ok tt → AmongIs ws cs first from to out out' last r'
      one_applies same told =
          record {
            alone = alone_by k j (told ∙ sym e);
            answer = λ t g p q.
                let z = applying ws cs rule a starts ends v j e t g p q in
                same ∙ ap step_by (w.answer a.rule g z.valuation z.term z.matched z.worth) ∙ (instantiated_answer limit rule a.rule.action z.term out ∙ ap step_answer (sym (outcome t g p q)));
            leaves = λ t g p q.
                let z = applying ws cs rule a starts ends v j e t g p q in
                w.leaves a.rule g z.valuation z.term z.matched z.worth ∙ (instantiated_out_lem limit rule a.rule.action z.term out ∙ ap (λ (x : Outcome StepResult). step_out x out) (sym (outcome t g p q)));
          }

-- ---- the step by one rule: that rule alone
module _ (ws cs : List ℤ) (index : List Row) (out : List ℤ) (x : Indexed ws index) (y : Accepted cs) where
  pub by_that_rule : (n : ℕ) (out' : List ℤ) (last : Obstacle) (r : Result (StdOption Stepped) Refusal) → AmongIs ws cs n 0 0 out out' last r → StepByRuleContract ws cs n out out' r
  by_that_rule n out' last r k =
      let t = x.table in
      let g = y.term in
      let o : rule_outcome ws cs n (length out) ≡ gives (answered t (out_limit (length out)) (first_of t (n ∷ positions 0 0 t) g)) =
      outcome_by ws cs n out t g x.is y.is ∙ ap (λ (z : Option (ℕ × Term)). gives (answered t (out_limit (length out)) z)) (alone (successor_by t n g)) in
      step_by_rule_contract ws cs n out out' r (k.answer t g x.is y.is ∙ ap step_answer (sym o)) (k.leaves t g x.is y.is ∙ ap (λ (z : Outcome StepResult). step_out z out) (sym o))
    where
      alone : (s : Option Term) → with_number n s ≡ or_next n s none
      alone none = refl
      alone (some h) = refl

  pub no_such_rule : (n : ℕ) → Unnamed ws n → StepByRuleContract ws cs n out out (Ok None)
  unfolding step_answer step_out
  no_such_rule n u =
      let t = x.table in
      let g = y.term in
      let e : successor_by t n g ≡ none = ap (λ (z : Option Rule). z >>= λ r. successor r g) (u.none t x.is) in
      let o : rule_outcome ws cs n (length out) ≡ gives stuck =
      outcome_by ws cs n out t g x.is y.is ∙ ap (λ (s : Option Term). gives (answered t (out_limit (length out)) (with_number n s))) e in
      step_by_rule_contract ws cs n out out (Ok None) (ap step_answer (sym o)) (ap (λ (z : Outcome StepResult). step_out z out) (sym o))

  -- ---- the step: all rules in their order
  module _ (count : ℕ) (c : RuleCountIs ws count) where
    pub every_position : Positions ws count
    every_position = positions_of ws count count c (omega arith)

    outcome_first : (root first : ℕ) → RootKeyIs cs root → SeekIs ws root 0 count first → step_outcome ws cs (length out) ≡ gives (answered x.table (out_limit (length out)) (first_of x.table (positions first count x.table) y.term))
    outcome_first root first key s =
        let t = x.table in
        let g = y.term in
        step_outcome_is ws cs (length out) ∙
        (on_words_lem ws cs t g x.is y.is (λ u h. gives (step u (out_limit (length out)) h)) ∙
        (ap {B = Outcome StepResult} gives (step_is_lem t (out_limit (length out)) g) ∙
        ap (λ (z : Option (ℕ × Term)). gives (answered t (out_limit (length out)) z))
        (ap (λ (l : List ℕ). first_of t l g) (sym (positions_all t count (c.is t x.is))) ∙ sought ws cs root 0 count first s every_position (record { is = λ h. key }) t g x.is y.is)))

    pub none_at_all : (root first : ℕ) → RootKeyIs cs root → SeekIs ws root 0 count first → count ≤ first → StepContract ws cs out out (Ok None)
    unfolding step_answer step_out
    none_at_all root first key s past =
        let t = x.table in
        let o : step_outcome ws cs (length out) ≡ gives stuck =
        outcome_first root first key s ∙ ap (λ (l : List ℕ). gives (answered t (out_limit (length out)) (first_of t l y.term))) (positions_none t first count past) in
        step_contract ws cs out out (Ok None) (ap step_answer (sym o)) (ap (λ (z : Outcome StepResult). step_out z out) (sym o))

  pub the_earliest : {root n root' from to : ℕ} → RootKeyIs cs root → FirstIs ws root n root' from to → {out' : List ℤ} {last : Obstacle} {r : Result (StdOption Stepped) Refusal} → AmongIs ws cs n from to out out' last r → StepContract ws cs out out' r
  the_earliest {root} {n} {root'} {from} {to} key f {out'} {last} {r} k =
      let t = x.table in
      let c = f.candidate in
      let w : step_outcome ws cs (length out) ≡ gives (answered t (out_limit (length out)) (first_of t (n ∷ positions from to t) y.term)) =
      outcome_first to f.count root c.position key c.sought ∙
      ap (λ (l : List ℕ). gives (answered t (out_limit (length out)) (first_of t l y.term)))
      (positions_next t c.position to x.is (every_position to f.count) c.below c.ordered ∙ ap (λ (i : ℕ). n ∷ positions i to t) (sym c.behind)) in
      step_contract ws cs out out' r (k.answer t y.term x.is y.is ∙ ap step_answer (sym w)) (k.leaves t y.term x.is y.is ∙ ap (λ (z : Outcome StepResult). step_out z out) (sym w))
