use Rattle.std.proofs.Common.{arith, Err, sym, ap, ◌∙◌}
use Rattle.step.proofs.LeftLaw.{no_left, place_small, left_in_order, left_differs_lem, left_matches}
use Rattle.step.proofs.Game.compare.Goals as goal

pub returns-in_default : goal.returns-in_default
returns-in_default c = no_left _ _ _ _ c.args.self.table.indexed c.args.self.configuration.accepted c.in_default.ensures.none

pub overflow_sub-nodes : goal.overflow_sub-nodes
overflow_sub-nodes c = left_in_order c.in-Some.rule.named c.left-left.ensures

pub overflow_add-result : goal.overflow_add-result
overflow_add-result c = let h = place_small _ _ _ _ c.in-Some.rule.table.indexed c.args.self.configuration.accepted c.in-Some.rule.named c.judge_alone.ensures (c.in-Err-Left.is ∙ ap Err c.in-Err-Left.field-0-is) in record { fits = omega (arith, h) }

pub returns-in-Ok : goal.returns-in-Ok
returns-in-Ok c =
    let s = c.in-Some.ensures.some in
    left_matches _ _ _ _ c.args.self.table.indexed c.args.self.configuration.accepted (rw (s.0, s.1) at c.in-Some.rule.named) (rw (s.0, s.1) at c.judge_alone.ensures) (λ k e. let z = sym c.in-Ok.is ∙ e in cc) (rw (s.0, s.1) at c.left-left.ensures) (λ q. omega arith)

pub returns-in-Err-Condition : goal.returns-in-Err-Condition
returns-in-Err-Condition c =
    let s = c.in-Some.ensures.some in
    left_matches _ _ _ _ c.args.self.table.indexed c.args.self.configuration.accepted (rw (s.0, s.1) at c.in-Some.rule.named) (rw (s.0, s.1) at c.judge_alone.ensures) (λ k e. let z = sym (c.in-Err-Condition.is ∙ ap Err c.in-Err-Condition.field-0-is) ∙ e in cc) (rw (s.0, s.1) at c.left-left.ensures) (λ q. omega arith)

pub returns-in-Err-Left : goal.returns-in-Err-Left
returns-in-Err-Left c =
    let s = c.in-Some.ensures.some in
    left_differs_lem _ _ _ _ c.args.self.table.indexed c.args.self.configuration.accepted (rw (s.0, s.1) at c.in-Some.rule.named) (rw (s.0, s.1) at c.judge_alone.ensures) (c.in-Err-Left.is ∙ ap Err c.in-Err-Left.field-0-is)
