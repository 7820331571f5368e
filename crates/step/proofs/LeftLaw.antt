-- A rule's left alone: what its verdict says of it, as an answer.
use Rattle.minuska.specs.declared.Row.{Row}
use Rattle.std.specs.Prelude.{Result, Ok, Err}
use mathlib.Core.Path.{◌≡◌, refl, sym, ◌∙◌, ap}
use mathlib.Core.Option.{Option, none, some}
use mathlib.Core.List.{List}
use Prim.Native.Nat.{ℕ, ◌+◌, ◌*◌, ◌≤◌, ◌<◌}
use native.Mathlib.Omega.{arith}
use lib.IntN.{ℤ}
use lib.ListN.{get_elem?}
use Rattle.minuska.specs.Term.{Term, node_count}
use Rattle.minuska.specs.Satisfaction.{SideCondition}
use Rattle.minuska.specs.Rule.{Rule}
use Rattle.minuska.specs.Answer.{Outcome, gives, MatchResult, matched, misfit}
use Rattle.minuska.specs.Slice.{match_answer}
use Rattle.minuska.specs.declared.MatchAnswer.TheVariants as M
use Rattle.minuska.specs.Computed.Compare.{Comparison, agreed, apart, comparison, nodes_compared, match_numbered, match_rule}
use Rattle.minuska.specs.Computed.Outcome.{match_outcome}
use Rattle.minuska.specs.Bridge.Place.{Indexed, Names, Accepted, left_words, PartIs}
use Rattle.minuska.specs.Contract.{MatchRuleContract}
use Rattle.minuska.proofs.ShutLaw.{match_rule_is, match_outcome_is}
use Rattle.minuska.proofs.OutcomeLaw.{on_words_lem}
use Rattle.minuska.proofs.ContractLaw.{match_rule_contract}
use Rattle.minuska.proofs.Bridge.AcceptedLaw.{term_length}
use Rattle.minuska.specs.Basics.{◌>>=◌}
use Rattle.minuska.specs.Obstacle.{Reason, left_differs, condition_fails}
use Rattle.minuska.specs.Computed.Reasons.{failing, reason_by, reason}
use Rattle.minuska.proofs.Good.{good}
use Rattle.minuska.proofs.StepLaw.{rule_okay}
use Rattle.minuska.proofs.ObstacleLaw.{place_below}
use Rattle.step.specs.declared.rule.Obstacle.{Obstacle}
use Rattle.step.specs.declared.rule.Obstacle.TheVariants.{Left}
use Rattle.step.specs.Verdict.{verdict_for, verdict_of, VerdictIs}
use Rattle.table.specs.Candidate.{Unnamed}
use Rattle.step.proofs.AmongLaw.{candidate}

-- ---- the nodes that are compared, by the verdict
module _ (l : Term) (conds : List SideCondition) where
  apart_at : (c : Comparison) {k : ℕ} → Err (Left k) ≡ verdict_for (reason_by conds c) → nodes_compared l c ≡ misfit (k + 1)
  apart_at (agreed ρ) e = absurd (no_left_lem (failing ρ conds) e)
    where
      no_left_lem : (o : Option ℕ) {k : ℕ} → Err (Left k) ≡ verdict_for (o >>= λ m. some (condition_fails m)) → ⊥
      no_left_lem none e = cc
      no_left_lem (some m) e = cc
  apart_at (apart j) {k} e = ap misfit (let z : j ≡ k = cc in omega arith)

  all_agree : (c : Comparison) → ((k : ℕ) → verdict_for (reason_by conds c) ≡ Err (Left k) → ⊥) → nodes_compared l c ≡ matched (node_count l)
  all_agree (agreed ρ) f = refl
  all_agree (apart j) f = absurd (f j refl)

pub left_in_order : {ws : List ℤ} {n : ℕ} → Names ws n → {from to : ℕ} → PartIs left_words ws n from to → from ≤ to
left_in_order a p = omega (arith, p.ends a.table a.rule a.is a.numbered)

-- ---- the answers of `compare`
module _ (ws cs : List ℤ) (index : List Row) (n : ℕ) (x : Indexed ws index) (y : Accepted cs) where
  outcome_by : match_outcome ws cs n ≡ gives (match_numbered (get_elem? x.table n) y.term)
  outcome_by =
      match_outcome_is ws cs n ∙
      (on_words_lem ws cs x.table y.term x.is y.is (λ u h. gives (match_rule u n h)) ∙
      ap {B = Outcome MatchResult} gives (match_rule_is x.table n y.term))

  pub no_left : Unnamed ws n → MatchRuleContract ws cs n (Ok (M.Differs 0))
  unfolding match_answer
  no_left u = match_rule_contract ws cs n (Ok (M.Differs 0)) (ap match_answer (sym (outcome_by ∙ ap (λ (o : Option Rule). gives (match_numbered o y.term)) (u.none x.table x.is))))

  module _ (a : Names ws n) {v : Result (Unit {0}) Obstacle} (w : VerdictIs ws cs n v) where
    abbrev rule : Rule
    rule = a.rule

    by_left : (z : MatchResult) → nodes_compared rule.left (comparison rule.left y.term) ≡ z → match_outcome ws cs n ≡ gives z
    by_left z e =
        outcome_by ∙ (ap (λ (o : Option Rule). gives (match_numbered o y.term)) (candidate ws cs n a x.table y.term x.is y.is).numbered ∙ ap {B = Outcome MatchResult} gives e)

    verdict : v ≡ verdict_of rule y.term
    verdict = w.is rule y.term (candidate ws cs n a x.table y.term x.is y.is)

    -- the left is small, and so is the place
    pub place_small : {k : ℕ} → v ≡ Err (Left k) → k < 512
    place_small {k} e = pick (reason rule y.term) refl (sym verdict ∙ e)
      where
        pick : (o : Option Reason) → reason rule y.term ≡ o → verdict_for o ≡ Err (Left k) → k < 512
        pick none q f = cc
        pick (some (condition_fails m)) q f = cc
        pick (some (left_differs m)) q f =
            let x = rule_okay a.table a.is.accepted n rule a.numbered in
            let z : m ≡ k = cc in
            omega (arith, place_below rule y.term x m q, (good rule x).left.small)

    pub left_differs_lem : {k : ℕ} → v ≡ Err (Left k) → MatchRuleContract ws cs n (Ok (M.Differs (k + 1)))
    unfolding match_answer
    left_differs_lem {k} e =
        match_rule_contract ws cs n (Ok (M.Differs (k + 1)))
        (ap match_answer (sym (by_left (misfit (k + 1)) (apart_at rule.left rule.conditions (comparison rule.left y.term) (sym e ∙ verdict)))))

    -- by the number that is answered: the left's nodes, from its words
    pub left_matches : ((k : ℕ) → v ≡ Err (Left k) → ⊥) → {from to : ℕ} → PartIs left_words ws n from to → {k : ℕ} → (to ≡ from + 2 * node_count rule.left → k ≡ node_count rule.left) → MatchRuleContract ws cs n (Ok (M.Matches k))
    unfolding match_answer
    left_matches f {from} {to} p {k} q =
        match_rule_contract ws cs n (Ok (M.Matches k))
        (ap (λ (m : ℕ). Ok (M.Matches m)) (q (omega (arith, p.ends a.table rule a.is a.numbered, term_length rule.left))) ∙ ap match_answer (sym (by_left (matched (node_count rule.left)) (all_agree rule.left rule.conditions (comparison rule.left y.term) (λ m g. f m (verdict ∙ g))))))
