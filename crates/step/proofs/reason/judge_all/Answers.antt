use Rattle.std.proofs.Common.{arith, ◌∙◌}
use Rattle.step.proofs.JudgingLaw.{few_places, none_first, turn_first, turn_found, turn_room, none_behind, turn_on}
use Rattle.step.proofs.reason.judge_all.Goals as goal

pub returns-in_err-tried : goal.returns-in_err-tried
returns-in_err-tried c = rw c.from_residual.ensures (none_first _ _ c.requires c.root-root.ensures c.in_err-tried.ensures.none)

pub loop-obstacle-init : goal.loop-obstacle-init
loop-obstacle-init c =
    let s = c.in_ok-tried.ensures.some in
    record {
      table = s.0;
      key = rw s.1.candidate.same_root c.root-root.ensures;
      count = s.1.count;
      turn = turn_first _ _ c.requires c.root-root.ensures (rw s.0 at c.in_ok-tried.tried.there) s.1;
    }

pub returns-in_default : goal.returns-in_default
returns-in_default c =
    let i = c.loop-obstacle.invariant in
    turn_found _ _ i.turn (rw i.table at c.loop-obstacle.tried.there) (rw i.table at c.loop-obstacle.tried.rule.named) (rw i.table at c.judge_alone.ensures) c.in_default.is

pub offset_bounds-obstacles-rule : goal.offset_bounds-obstacles-rule
offset_bounds-obstacles-rule c = record { fits = omega (arith, few_places c.loop-obstacle.tried.rule.named) }

pub bounds-obstacles-rule : goal.bounds-obstacles-rule
bounds-obstacles-rule c =
    let i = c.loop-obstacle.invariant in
    turn_room _ _ i.turn (rw i.table at c.loop-obstacle.tried.there) (rw i.table at c.loop-obstacle.tried.rule.named) (rw i.table at c.judge_alone.ensures)

pub returns-in_err-tried-2 : goal.returns-in_err-tried-2
returns-in_err-tried-2 c =
    let i = c.loop-obstacle.invariant in
    rw c.from_residual-in_err-tried-2.ensures (none_behind _ _ i.turn (rw i.table at c.loop-obstacle.tried.there) (rw i.table at c.loop-obstacle.tried.rule.named) (rw i.table at c.judge_alone.ensures) c.in-Err.is i.key i.count (rw i.table at c.in_err-tried-2.ensures.none))

pub loop-obstacle-preserved : goal.loop-obstacle-preserved
loop-obstacle-preserved c =
    let i = c.loop-obstacle.invariant in
    let s = c.in_ok-tried-2.ensures.some in
    let k = rw i.table at s.1 in
    record {
      table = s.0 ∙ i.table;
      key = rw k.same_root i.key;
      count = rw k.same_end i.count;
      turn = rw k.same_end (turn_on _ _ i.turn (rw i.table at c.loop-obstacle.tried.there) (rw i.table at c.loop-obstacle.tried.rule.named) (rw i.table at c.judge_alone.ensures) c.in-Err.is i.key k);
    }
