use Rattle.step.proofs.WaysLaw.{some_matched, way_held, given_ok, held_as}
use Rattle.step.proofs.rule.Attempt.judge.Goals as goal

pub hold_conditions-requires : goal.hold_conditions-requires
hold_conditions-requires c =
    some_matched _ _ _ _ _ c.compare_left.ensures (given_ok _ _ _ c.map_err.ensures.cases c.map_err.ensures.variant c.in_ok-map_err.was) c.args.self.rule.named c.args.self.configuration.accepted

pub returns : goal.returns
returns c =
    way_held _ _ _ _ _ c.compare_left.ensures (given_ok _ _ _ c.map_err.ensures.cases c.map_err.ensures.variant c.in_ok-map_err.was) c.hold_conditions.ensures (held_as _ _ c.map_err-2.ensures.cases)
