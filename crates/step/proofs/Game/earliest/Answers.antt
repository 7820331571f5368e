-- No rule is a candidate, or the first is tried and those behind it.
use Rattle.std.proofs.Common.{arith}
use Rattle.step.proofs.AmongLaw.{none_at_all, the_earliest}
use Rattle.step.proofs.Game.earliest.Goals as goal

pub returns-in_default : goal.returns-in_default
returns-in_default c =
    let n = c.in_default.ensures.none in
    none_at_all _ _ _ _ c.args.self.table.indexed c.args.self.configuration.accepted _ n.count _ _ c.root-root.ensures n.passed (omega arith)

pub returns : goal.returns
returns c =
    let s = c.in-Some.ensures.some in
    the_earliest _ _ _ _ c.args.self.table.indexed c.args.self.configuration.accepted c.root-root.ensures s.1 (rw s.0 at c.apply_among.ensures)
