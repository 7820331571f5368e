-- What each way out of `write_within` and of `judge` says, over plain variables.
use Rattle.std.specs.Prelude.{Result, Ok, Err}
use Rattle.std.specs.Result.{MatchResult, IsErrAnd, is_ok}
use Rattle.std.proofs.lemmas.Result.{err_from_is_err_and}
use mathlib.Core.Path.{◌≡◌, refl, sym, ◌∙◌, ap}
use mathlib.Core.Bool.{Bool, true, false}
use mathlib.Core.Option.{Option, none, some}
use Rattle.minuska.specs.Basics.{◌>>=◌}
use mathlib.Core.List.{List}
use Prim.Native.Nat.{ℕ, ◌*◌, ◌/◌, ◌≤◌}
use native.Mathlib.Nat.{min-le_left}
use native.Mathlib.Omega.{arith}
use lib.IntN.{ℤ}
use lib.ListN.{length}
use Rattle.minuska.specs.Term.{Term, single, node_count}
use Rattle.minuska.specs.Satisfaction.{Valuation}
use Rattle.minuska.specs.Rule.{Rule, max_nodes}
use Rattle.minuska.specs.Slice.{out_limit}
use Rattle.minuska.specs.declared.Refusal.TheVariants.{OverLimit}
use Rattle.minuska.specs.Computed.Match.{try_match, unbound}
use Rattle.minuska.specs.Computed.Value.{value}
use Rattle.minuska.specs.Bridge.Place.{Names, Accepted, ActionIs}
use Rattle.minuska.proofs.Bridge.AcceptedLaw.{term_length}
use Rattle.minuska.specs.Obstacle.{condition_fails}
use Rattle.minuska.specs.Computed.Compare.{Comparison, agreed, apart, comparison, bound_by}
use Rattle.minuska.specs.Computed.Reasons.{failing, reason_by}
use Rattle.minuska.proofs.CompareLaw.{compare_match}
use Rattle.step.specs.declared.rule.Obstacle.{Obstacle}
use Rattle.step.specs.declared.rule.Obstacle.TheVariants.{Condition}
use Rattle.step.specs.Matching.{compared_by}
use Rattle.step.specs.Conditions.{failed_by}
use Rattle.step.specs.Apply.{Candidate, Matched, SomeMatched, MatchIs, HoldIs, FitsIs, WordsFit, WriteIs, Instantiated}
use Rattle.step.specs.Verdict.{verdict_for, JudgeIs}
use Rattle.step.proofs.ApplyLaw.{too_large_lem, words_fit, as_large, as_stepped}

-- the limit that an out slice gives is within it
pub limit_fits : (n : ℕ) → 2 * out_limit n ≤ n
limit_fits n = omega (arith, min-le_left (n / 2) max_nodes)

-- ---- `write_within`
module _ (ws cs : List ℤ) (n : ℕ) (starts ends : List ℕ) (out : List ℤ) (b : Bool) (m : FitsIs ws cs n starts ends (2 * out_limit (length out)) b) where
  abbrev limit : ℕ
  limit = out_limit (length out)

  pub way_large : b ≡ false → Instantiated ws cs n starts ends out out (Err OverLimit)
  way_large t =
      record { answer = λ rule g ρ h x v. (as_large limit n rule.action h out (too_large_lem limit h b (m.is rule g ρ h x v) t)).0; leaves = λ rule g ρ h x v. (as_large limit n rule.action h out (too_large_lem limit h b (m.is rule g ρ h x v) t)).1 }

  module _ (t : b ≡ true) where
    within : (rule : Rule) (g : Term) (ρ : Valuation) (h : Term) → Matched ws cs n starts ends rule g ρ → value ρ rule.right ≡ some h → node_count h ≤ limit
    within rule g ρ h x v = words_fit limit h b (m.is rule g ρ h x v) t

    pub fits_out : WordsFit ws cs n starts ends (length out)
    fits_out = record { fit = λ rule g ρ h x v. omega (arith, term_length h, limit_fits (length out), within rule g ρ h x v) }

    pub way_stepped : (k a : ℕ) (out' : List ℤ) → ActionIs ws n a → WriteIs ws cs n starts ends out out' k → Instantiated ws cs n starts ends out out' (Ok (record { rule = n; action = a; nodes = k / 2 }))
    way_stepped k a out' i w =
        record { answer = λ rule g ρ h x v. let p : k / 2 ≡ node_count h = omega (arith, w.many rule g ρ h x v, term_length h) in let q : a ≡ rule.action = i.is x.at.table rule x.at.is x.at.numbered in rw (p, q) (as_stepped limit n rule.action h out (within rule g ρ h x v)).0; leaves = λ rule g ρ h x v. w.is rule g ρ h x v ∙ (as_stepped limit n rule.action h out (within rule g ρ h x v)).1 }

-- ---- `judge`
-- a verdict, by the first condition that fails
abbrev pub verdict_held : Result (Unit {0}) ℕ → Result (Unit {0}) Obstacle
verdict_held (Ok u) = Ok tt
verdict_held (Err k) = Err (Condition k)

held_by : (o : Option ℕ) → verdict_held (failed_by o) ≡ verdict_for (o >>= λ k. some (condition_fails k))
held_by none = refl
held_by (some k) = refl

-- what `map_err` gives, by what it is given
pub given_ok : {A E D : Type 0} (Q : E → Type 0) {x : A} (s : Result A E) (r : Result A D) → MatchResult s (λ y. r ≡ Ok y) Q → is_ok r ≡ is_ok s → r ≡ Ok x → s ≡ Ok x
given_ok Q (Ok y) r m v e = cc
given_ok Q (Err y) r m v e = let h : is_ok r ≡ true = ap is_ok e in cc

pub held_as : (q : Result (Unit {0}) ℕ) (r : Result (Unit {0}) Obstacle) → MatchResult q (λ u. r ≡ Ok u) (λ k. IsErrAnd r (λ o. o ≡ Condition k)) → r ≡ verdict_held q
held_as (Ok u) r m = m
held_as (Err k) r m = let (o, e, f) = err_from_is_err_and r m in e ∙ ap Err f

module _ (ws cs : List ℤ) (n : ℕ) (starts ends : List ℕ) where
  module _ {p : Result (Unit {0}) ℕ} (m : MatchIs ws cs n starts ends p) where
    -- it agrees
    module _ {u : Unit {0}} (all : p ≡ Ok u) where
      matching : (rule : Rule) (g : Term) (a : Candidate ws cs n rule g) → (ρ : Valuation) × (comparison rule.left g ≡ agreed ρ) × Matched ws cs n starts ends rule g ρ
      matching rule g a = go (comparison rule.left g) refl (sym (m.answer rule g a) ∙ all)
        where
          go : (c : Comparison) → comparison rule.left g ≡ c → compared_by c ≡ Ok u → (ρ : Valuation) × (comparison rule.left g ≡ agreed ρ) × Matched ws cs n starts ends rule g ρ
          go (apart k) e q = absurd cc
          go (agreed ρ) e q =
              let f : try_match (single rule.left) (single g) unbound ≡ some ρ = sym (compare_match (single rule.left) (single g) unbound) ∙ ap bound_by e in
              (ρ, e, record { at = a; matched = f; binds = m.binds rule g ρ a f })

      pub some_matched : Names ws n → Accepted cs → SomeMatched ws cs n starts ends
      some_matched a y =
          let (ρ, c, e) = matching a.rule y.term (record { table = a.table; is = a.is; numbered = a.numbered; configuration = y.is }) in
          record { rule = a.rule; configuration = y.term; valuation = ρ; is = e }

      pub way_held : {q : Result (Unit {0}) ℕ} → HoldIs ws cs n starts ends q → {r : Result (Unit {0}) Obstacle} → r ≡ verdict_held q → JudgeIs ws cs n starts ends r
      way_held h e =
          record {
            verdict = record { is = λ rule g a. let (ρ, c, x) = matching rule g a in e ∙ (ap verdict_held (h.is rule g ρ x) ∙ (held_by (failing ρ rule.conditions) ∙ sym (ap (λ (d : Comparison). verdict_for (reason_by rule.conditions d)) c))) };
            binds = m.binds;
          }
