use Rattle.std.proofs.Common.{arith, refl, sym, ap, ◌∙◌}
use Rattle.std.proofs.lemmas.Result.{err_from_is_err_and}
use Rattle.step.proofs.ApplyLaw.{step_by}
use Rattle.step.proofs.AmongLaw.{verdict_none, judged_matched, trying_first, trying_on, alone_by, none_applies, one_applies}
use Rattle.step.proofs.apply_among.Goals as goal

pub loop-obstacle-init : goal.loop-obstacle-init
loop-obstacle-init c = record { kept = refl; table = refl; root = refl; to = refl; trying = trying_first _ _ _ _ _ }

-- the rule applies
pub write_within-requires : goal.write_within-requires
write_within-requires c = judged_matched _ _ _ c.loop-obstacle.tried.rule.named _ _ _ c.judge.ensures c.in_default.is c.loop-obstacle.tried.rule.table.indexed c.args.configuration.accepted

pub returns-in_err-stepped : goal.returns-in_err-stepped
returns-in_err-stepped c =
    let p = err_from_is_err_and c.from_residual.result c.from_residual.ensures.1 in
    let i = c.loop-obstacle.invariant in
    rw (p.1, p.2, ← i.kept) (one_applies _ _ _ _ _ _ _ i.trying (rw i.table at c.loop-obstacle.tried.rule.named) _ _ _ (rw i.table at c.judge.ensures) c.in_default.is _ _ _ (rw i.table at c.write_within.ensures) (sym (ap step_by c.in_err-stepped.was)) refl)

pub returns-in_default : goal.returns-in_default
returns-in_default c =
    let i = c.loop-obstacle.invariant in
    rw (← i.kept) (one_applies _ _ _ _ _ _ _ i.trying (rw i.table at c.loop-obstacle.tried.rule.named) _ _ _ (rw i.table at c.judge.ensures) c.in_default.is _ _ _ (rw i.table at c.write_within.ensures) (sym (ap step_by c.in_ok-stepped.was)) refl)

-- it does not, and the next is sought
pub returns-in_default-next : goal.returns-in_default-next
returns-in_default-next c =
    let i = c.loop-obstacle.invariant in
    let j = rw i.table at c.judge.ensures in
    rw i.kept (none_applies _ _ _ _ _ _ _ i.trying (λ t g p q. verdict_none _ _ _ (rw i.table at c.loop-obstacle.tried.rule.named) _ j.verdict t g p q c.in-Err.is) _ _ (rw (i.table, i.root, i.to) at c.in_default-next.ensures.none) c.args.first.there c.requires _ _ (omega arith) (alone_by _ _ _ _ _ i.trying j (sym c.in-Err.is)))

pub loop-obstacle-preserved : goal.loop-obstacle-preserved
loop-obstacle-preserved c =
    let i = c.loop-obstacle.invariant in
    let j = rw i.table at c.judge.ensures in
    let s = c.in-Some.ensures.some in
    let k = rw (i.table, i.root, i.to) at s.1 in
    record {
      kept = i.kept;
      table = s.0 ∙ i.table;
      root = k.same_root;
      to = k.same_end;
      trying = trying_on _ _ _ _ _ _ _ i.trying (λ t g p q. verdict_none _ _ _ (rw i.table at c.loop-obstacle.tried.rule.named) _ j.verdict t g p q c.in-Err.is) _ _ k.sought c.args.first.there c.requires _ _ k.below k.ordered k.behind;
    }
