-- Rules tried one after the other, over checked words.
use Rattle.std.specs.Prelude.{◌≡◌, List, ◌∷◌, ℕ, ◌-◌, ◌<◌, ℤ, length, take, drop, Option, Some, None, Result, Ok, Err}
use Rattle.minuska.specs.declared.Refusal.{Refusal}
use Rattle.minuska.specs.declared.Stepped.{Stepped}
use Rattle.minuska.specs.Term.{Term}
use Rattle.minuska.specs.Rule.{Table, IsTable, IsConfiguration}
use Rattle.minuska.specs.Slice.{out_limit, step_answer, step_out}
use Rattle.minuska.specs.Answer.{gives}
use Rattle.minuska.specs.Computed.Step.{order, first_of, answered}
use Rattle.minuska.specs.Bridge.Place.{RootKeyIs}
use Rattle.step.specs.declared.rule.Obstacle.{Obstacle}
use Rattle.step.specs.Verdict.{VerdictIs}

-- the rules at the positions from one up to another of the order in which rules are tried
abbrev pub positions : ℕ → ℕ → Table → List ℕ
positions from to t = take (to - from) (drop from (order t))

-- where there are positions to seek among, the key of the configuration's root is known
pub record KeyFor (cs : List ℤ) (to root : ℕ) : Type 0 where
  pub is : 0 < to → RootKeyIs cs root

-- what is answered of a rule alone, and what is left of why it does not apply, as its verdict
abbrev pub verdict_told : Result (Option Stepped) Refusal → Obstacle → Result (Unit {0}) Obstacle
verdict_told (Ok (Some stepped)) last = Ok tt
verdict_told (Ok None) last = Err last
verdict_told (Err refusal) last = Ok tt

-- the first that applies of a rule and of those at some positions, as the step answers it; of a rule alone, its verdict
pub record AmongIs (ws cs : List ℤ) (first from to : ℕ) (out out' : List ℤ) (last : Obstacle) (r : Result (Option Stepped) Refusal) : Type 0 where
  pub answer : (t : Table) (g : Term) → IsTable ws t → IsConfiguration cs g → r ≡ step_answer (gives (answered t (out_limit (length out)) (first_of t (first ∷ positions from to t) g)))
  pub leaves : (t : Table) (g : Term) → IsTable ws t → IsConfiguration cs g → out' ≡ step_out (gives (answered t (out_limit (length out)) (first_of t (first ∷ positions from to t) g))) out
  pub alone : from ≡ to → VerdictIs ws cs first (verdict_told r last)
