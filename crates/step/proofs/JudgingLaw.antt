-- The verdicts on all rules, up to the earliest that applies: the turns of `judge_all`.
use Rattle.std.specs.Prelude.{Some, None, Result, Ok, Err}
use mathlib.Core.Path.{◌≡◌, refl, sym, ◌∙◌, ap, subst}
use mathlib.Core.Bool.{Bool, true, false}
use mathlib.Core.Logic.{◌⊎◌, inl, inr}
use mathlib.Core.Option.{Option, some, some-injective}
use mathlib.Core.List.Memᴰ
use mathlib.Core.List.{List, [], ◌∷◌, Memᴰ}
use Prim.Native.Nat.{ℕ, suc, ◌+◌, ◌≤◌, ◌<◌}
use native.Mathlib.Decide.{dec_lt}
use native.Mathlib.Omega.{arith}
use lib.Dec.{eqb}
use lib.IntN.{ℤ}
use lib.ListN.{length, get_or, get_elem?, set, length-set}
use lib.Seq.{get_or-set_same, get_or-set_other}
use borrow.Author.Tests.{eqb-true, eqb-false}
use Rattle.minuska.specs.Term.{Term}
use Rattle.minuska.specs.Rule.{Rule, Table, IsTable, IsConfiguration}
use Rattle.minuska.specs.Computed.Step.{or_next, first_of, order, earliest}
use Rattle.minuska.specs.Bridge.Place.{Names, RuleCountIs, OrderedIs, Positions, RootKeyIs, SeekIs}
use Rattle.minuska.proofs.OrderLaw.{named_below, order_complete}
use Rattle.minuska.proofs.Bridge.PositionLaw.{few_rules, order_length}
use Rattle.minuska.proofs.Bridge.RootLaw.{root_apart}
use Rattle.minuska.specs.Obstacle.{Reason}
use Rattle.minuska.specs.Computed.Reasons.{reason_by, reason}
use Rattle.step.specs.declared.rule.Obstacle.{Obstacle}
use Rattle.step.specs.declared.rule.Obstacle.TheVariants.{Left}
use Rattle.step.specs.Apply.{Candidate}
use Rattle.step.specs.Verdict.{obstacle_of, verdict_for, VerdictIs}
use Rattle.step.specs.Among.{positions}
use Rattle.step.specs.Reasons.{found_as, Fresh, JudgeAllIs}
use Rattle.table.specs.Candidate.{CandidateIs, FirstIs, NoneFirst}
use Rattle.table.proofs.IndexLaw.{positions_of}
use Rattle.step.proofs.AmongLaw.{positions_none, positions_next, positions_all, verdict_some, verdict_none, sought}

-- ---- what has come of the rules before a position
abbrev ObstacleAt : List ℤ → List ℤ → List Obstacle → ℕ → Type 0
ObstacleAt ws cs obstacles n = (rule : Rule) (g : Term) (o : Reason) → Candidate ws cs n rule g → reason rule g ≡ some o → get_or obstacles n (Left 0) ≡ obstacle_of o

-- none of them applies, and their obstacles are in the list; what stands there of any other rule is that its left's first node disagrees, or its own
pub record Judging (ws cs : List ℤ) (count i : ℕ) (obstacles : List Obstacle) : Type 0 where
  pub room : 256 ≤ length obstacles
  pub same : (t : Table) (g : Term) → IsTable ws t → IsConfiguration cs g → earliest t g ≡ first_of t (positions i count t) g
  pub each : (n : ℕ) → n < 256 → (get_or obstacles n (Left 0) ≡ Left 0) ⊎ ObstacleAt ws cs obstacles n
  pub done : (t : Table) (g : Term) (j n : ℕ) (rule : Rule) (o : Reason) → IsTable ws t → IsConfiguration cs g → j < i → get_elem? (order t) j ≡ some n → get_elem? t n ≡ some rule → reason rule g ≡ some o → get_or obstacles n (Left 0) ≡ obstacle_of o

-- a number that is in a list stands somewhere in it
stands_at : (xs : List ℕ) (n : ℕ) → Memᴰ n xs → (j : ℕ) × (get_elem? xs j ≡ some n)
stands_at [] n m = absurd (Memᴰ.not-nil m)
stands_at (x ∷ xs) n m = pick (Memᴰ.cases_cons m) (λ k. stands_at xs n k)
  where
    pick : (n ≡ x) ⊎ Memᴰ n xs → (Memᴰ n xs → (j : ℕ) × (get_elem? xs j ≡ some n)) → (j : ℕ) × (get_elem? (x ∷ xs) j ≡ some n)
    pick (inl e) ih = (0, ap some (sym e))
    pick (inr k) ih = let (j, e) = ih k in (suc j, e)

-- a number that names a rule is below 256
pub named_few : {ws : List ℤ} (t : Table) (n : ℕ) (rule : Rule) → IsTable ws t → get_elem? t n ≡ some rule → n < 256
named_few t n rule p e = omega (arith, named_below t n rule e, few_rules t p.accepted)

pub few_places : {ws : List ℤ} {n : ℕ} → Names ws n → n < 256
few_places {n = n} a = named_few a.table n a.rule a.is a.numbered

module _ (ws cs : List ℤ) (count : ℕ) (b : Positions ws count) where
  -- ---- positions that are passed over: the first node disagrees
  module _ (i : ℕ) (obstacles : List Obstacle) (k : Judging ws cs count i obstacles) (root r : ℕ) (key : RootKeyIs cs root) (s : SeekIs ws root i count r) where
    passed_first : (t : Table) (g : Term) (j n : ℕ) (rule : Rule) (o : Reason) → IsTable ws t → IsConfiguration cs g → i ≤ j → j < r → get_elem? (order t) j ≡ some n → get_elem? t n ≡ some rule → reason rule g ≡ some o → Left 0 ≡ obstacle_of o
    passed_first t g j n rule o p q low below e f h =
        ap obstacle_of (some-injective _ o (sym (ap (reason_by rule.conditions) (root_apart rule.left g (s.passed.differ t rule g j n p (key.is g q) low below e f))) ∙ h))

    pub judging_past : Judging ws cs count r obstacles
    judging_past =
        record {
          room = k.room;
          same = λ t g p q. k.same t g p q ∙ sought ws cs root i count r s b (record { is = λ h. key }) t g p q;
          each = k.each;
          done = λ t g j n rule o p q below e f h. before t g j n rule o p q below e f h (dec_lt j i);
        }
      where
        before : (t : Table) (g : Term) (j n : ℕ) (rule : Rule) (o : Reason) → IsTable ws t → IsConfiguration cs g → j < r → get_elem? (order t) j ≡ some n → get_elem? t n ≡ some rule → reason rule g ≡ some o → Dec (j < i) → get_or obstacles n (Left 0) ≡ obstacle_of o
        before t g j n rule o p q below e f h (yes m) = k.done t g j n rule o p q m e f h
        before t g j n rule o p q below e f h (no m) = pick (k.each n (named_few t n rule p f))
          where
            pick : (get_or obstacles n (Left 0) ≡ Left 0) ⊎ ObstacleAt ws cs obstacles n → get_or obstacles n (Left 0) ≡ obstacle_of o
            pick (inl x) = x ∙ passed_first t g j n rule o p q (omega (arith, m)) below e f h
            pick (inr x) = x rule g o (record { table = t; is = p; numbered = f; configuration = q }) h

  pub judging_first : RuleCountIs ws count → (obstacles : List Obstacle) → Fresh obstacles → (root i : ℕ) → RootKeyIs cs root → SeekIs ws root 0 count i → Judging ws cs count i obstacles
  judging_first c obstacles x root i key s =
      judging_past 0 obstacles
      (record { room = x.room; same = λ t g p q. ap (λ (l : List ℕ). first_of t l g) (sym (positions_all t count (c.is t p))); each = λ n h. inl (x.each n h); done = λ t g j n rule o p q h. absurd (let f : ⊥ = omega arith in f) })
      root i key s

  module _ (i : ℕ) (obstacles : List Obstacle) (k : Judging ws cs count i obstacles) where
    -- ---- all are judged
    pub all_judged : RuleCountIs ws count → count ≤ i → JudgeAllIs ws cs obstacles None
    all_judged c past =
        record {
          room = k.room;
          answer = λ t g p q. sym (ap found_as (k.same t g p q ∙ ap (λ (l : List ℕ). first_of t l g) (positions_none t i count past)));
          leaves = λ e n rule g o x h.
              let t = x.table in
              let (j, f) = stands_at (order t) n (order_complete t x.is.accepted n rule x.numbered) in
              k.done t g j n rule o x.is x.configuration (let l = c.is t x.is in omega (arith, named_below (order t) j n f, order_length t)) f x.numbered h;
        }

    -- ---- the rule at this position, and its verdict
    module _ (below : i < count) (rule : ℕ) (o : OrderedIs ws i rule) (a : Names ws rule) (v : Result (Unit {0}) Obstacle) (w : VerdictIs ws cs rule v) where
      from_here : (t : Table) (g : Term) → IsTable ws t → IsConfiguration cs g → earliest t g ≡ first_of t (rule ∷ positions (i + 1) count t) g
      from_here t g p q = k.same t g p q ∙ ap (λ (l : List ℕ). first_of t l g) (positions_next t i count p b below o)

      pub judged_first : {u : Unit {0}} → v ≡ Ok u → JudgeAllIs ws cs obstacles (Some rule)
      judged_first e =
          record {
            room = k.room;
            answer = λ t g p q.
                let (h, s) = verdict_some ws cs rule a v w t g p q e in
                sym (ap found_as (from_here t g p q ∙ ap (λ (z : Option Term). or_next rule z (first_of t (positions (i + 1) count t) g)) s));
            leaves = λ z. cc;
          }

      pub rule_room : rule < length obstacles
      rule_room = let r = k.room in let h = named_few a.table rule a.rule a.is a.numbered in omega arith

      module _ {obstacle : Obstacle} (e : v ≡ Err obstacle) where
        abbrev put : List Obstacle
        put = set obstacles rule obstacle

        put_rule : ObstacleAt ws cs put rule
        put_rule r g p x h = get_or-set_same obstacles rule obstacle (Left 0) rule_room ∙ (let z : Err obstacle ≡ Err (obstacle_of p) = sym e ∙ (w.is r g x ∙ ap verdict_for h) in cc)

        put_here : (n : ℕ) → n ≡ rule → ObstacleAt ws cs put n
        put_here n p = subst (ObstacleAt ws cs put) (sym p) put_rule

        put_other : (n : ℕ) → (n ≡ rule → ⊥) → get_or put n (Left 0) ≡ get_or obstacles n (Left 0)
        put_other n f = get_or-set_other obstacles rule n obstacle (Left 0) f

        pub judging_on : Judging ws cs count (i + 1) put
        judging_on =
            record {
              room = subst (λ (l : ℕ). 256 ≤ l) (sym (length-set obstacles rule obstacle)) k.room;
              same = λ t g p q. from_here t g p q ∙ ap (λ (z : Option Term). or_next rule z (first_of t (positions (i + 1) count t) g)) (verdict_none ws cs rule a v w t g p q e);
              each = λ n h. every n (k.each n h) (eqb n rule) refl;
              done = λ t g j n r p q x h f y z. before t g j n r p q x h f y z (eqb n rule) refl;
            }
          where
            every : (n : ℕ) → (get_or obstacles n (Left 0) ≡ Left 0) ⊎ ObstacleAt ws cs obstacles n → (t : Bool) → eqb n rule ≡ t → (get_or put n (Left 0) ≡ Left 0) ⊎ ObstacleAt ws cs put n
            every n x true f = inr (put_here n (eqb-true n rule f))
            every n (inl x) false f = inl (put_other n (eqb-false n rule f) ∙ x)
            every n (inr x) false f = inr (λ r g p y h. put_other n (eqb-false n rule f) ∙ x r g p y h)

            before : (t : Table) (g : Term) (j n : ℕ) (r : Rule) (p : Reason) → IsTable ws t → IsConfiguration cs g → j < i + 1 → get_elem? (order t) j ≡ some n → get_elem? t n ≡ some r → reason r g ≡ some p → (u : Bool) → eqb n rule ≡ u → get_or put n (Left 0) ≡ obstacle_of p
            before t g j n r p q x h f y z true u = put_here n (eqb-true n rule u) r g p (record { table = t; is = q; numbered = y; configuration = x }) z
            before t g j n r p q x h f y z false u = put_other n (eqb-false n rule u) ∙ k.done t g j n r p q x (earlier (dec_lt j i)) f y z
              where
                earlier : Dec (j < i) → j < i
                earlier (yes m) = m
                earlier (no m) = absurd (eqb-false n rule u (sym (o.is t q n (subst (λ (l : ℕ). get_elem? (order t) l ≡ some n) (let l : j ≡ i = omega (arith, m) in l) f))))

-- ---- the turns of the loop, by its candidate
module _ (ws cs : List ℤ) where
  -- the rules before this candidate's position are judged
  pub record Turn (count n from : ℕ) (obstacles : List Obstacle) : Type 0 where
    pub position : ℕ
    pub below : position < count
    pub ordered : OrderedIs ws position n
    pub behind : from ≡ position + 1
    pub judging : Judging ws cs count position obstacles

  module _ {obstacles : List Obstacle} (x : Fresh obstacles) {root : ℕ} (key : RootKeyIs cs root) where
    pub none_first : NoneFirst ws root → JudgeAllIs ws cs obstacles None
    none_first f =
        let b = positions_of ws f.to f.to f.count (omega arith) in
        all_judged ws cs f.to b f.to obstacles (judging_first ws cs f.to b f.count obstacles x root f.to key f.passed) f.count (omega arith)

    pub turn_first : {n root' from to : ℕ} → Positions ws to → FirstIs ws root n root' from to → Turn to n from obstacles
    turn_first {to = to} b f =
        let c = f.candidate in
        record { position = c.position; below = c.below; ordered = c.ordered; behind = c.behind; judging = judging_first ws cs to b f.count obstacles x root c.position key c.sought }

  module _ {count n from : ℕ} {obstacles : List Obstacle} (t : Turn count n from obstacles) (b : Positions ws count) (a : Names ws n) {v : Result (Unit {0}) Obstacle} (w : VerdictIs ws cs n v) where
    pub turn_found : {u : Unit {0}} → v ≡ Ok u → JudgeAllIs ws cs obstacles (Some n)
    turn_found e = judged_first ws cs count b t.position obstacles t.judging t.below n t.ordered a v w e

    pub turn_room : n < length obstacles
    turn_room = rule_room ws cs count b t.position obstacles t.judging t.below n t.ordered a v w

    module _ {obstacle : Obstacle} (e : v ≡ Err obstacle) {root : ℕ} (key : RootKeyIs cs root) where
      past : (r : ℕ) → SeekIs ws root from count r → Judging ws cs count r (set obstacles n obstacle)
      past r s =
          judging_past ws cs count b from (set obstacles n obstacle)
          (subst (λ (i : ℕ). Judging ws cs count i (set obstacles n obstacle)) (sym t.behind) (judging_on ws cs count b t.position obstacles t.judging t.below n t.ordered a v w e))
          root r key s

      pub none_behind : RuleCountIs ws count → SeekIs ws root from count count → JudgeAllIs ws cs (set obstacles n obstacle) None
      none_behind c s = all_judged ws cs count b count (set obstacles n obstacle) (past count s) c (omega arith)

      pub turn_on : {n' root' from' to' : ℕ} → CandidateIs ws root from count n' root' from' to' → Turn count n' from' (set obstacles n obstacle)
      turn_on c = record { position = c.position; below = c.below; ordered = c.ordered; behind = c.behind; judging = past c.position c.sought }
