use Rattle.step.proofs.AmongLaw.{by_that_rule, no_such_rule}
use Rattle.step.proofs.Game.by_rule.Goals as goal

pub returns-in_default : goal.returns-in_default
returns-in_default c = no_such_rule _ _ _ _ c.args.self.table.indexed c.args.self.configuration.accepted _ c.in_default.ensures.none

pub returns : goal.returns
returns c =
    let a = c.alone.ensures in
    let s = c.in-Some.ensures.some in
    by_that_rule _ _ _ _ c.args.self.table.indexed c.args.self.configuration.accepted _ _ _ _ (rw (a.0, a.1, a.2, a.3, s.0, s.1) at c.apply_among.ensures)
