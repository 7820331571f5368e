-- The conditions that are found, one after the other.
use Rattle.std.proofs.Common.{◌≡◌, ◌∙◌, sym, ap, ℕ, ◌+◌, ◌-◌, arith}
use Rattle.table.specs.Number.{answered}
use Rattle.table.specs.Rule.{conditions_end}
use Rattle.table.proofs.PartLaw.{answered_some, answered_none}
use Rattle.table.proofs.SideLaw.{first_missed, second_missed, both_found}
use Rattle.table.proofs.rule.conditions_end.Goals as goal

pub returns-in_err-second : goal.returns-in_err-second
returns-in_err-second c =
    c.from_residual.ensures ∙ sym (ap answered (c.loop.invariant ∙ first_missed _ _ _ _ (omega arith) (answered_none _ c.in_err-second.ensures)))

pub returns-in_err-end : goal.returns-in_err-end
returns-in_err-end c =
    c.from_residual-in_err-end.ensures ∙ sym (ap answered (c.loop.invariant ∙
    second_missed _ _ _ _ (omega arith) _ (answered_some _ _ c.in_ok-second.ensures) (answered_none _ c.in_err-end.ensures)))

pub loop-preserved : goal.loop-preserved
loop-preserved c =
    let e : c.args.count - c.loop.counter - 1 ≡ c.args.count - (c.loop.counter + 1) = omega arith in
    c.loop.invariant ∙ (both_found _ _ _ _ (omega arith) _ (answered_some _ _ c.in_ok-second.ensures) _ (answered_some _ _ c.in_ok-end.ensures) ∙
    ap (λ (n : ℕ). conditions_end n c.args.table.now c.args.seen.now c.in_ok-end.end) e)

pub returns : goal.returns
returns c =
    let z : c.args.count - c.loop.counter ≡ 0 = omega arith in
    sym (ap answered (c.loop.invariant ∙ ap (λ (n : ℕ). conditions_end n c.args.table.now c.args.seen.now c.loop.end) z))
