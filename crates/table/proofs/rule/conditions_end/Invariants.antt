use Rattle.std.proofs.Common.{◌≡◌, ◌-◌}
use Rattle.table.specs.Rule.{conditions_end}
use Rattle.table.proofs.rule.conditions_end.Given as goal

abbrev pub invariant-loop : goal.invariant-loop
invariant-loop l = conditions_end l.count l.table l.seen l.at ≡ conditions_end (l.count - l.counter) l.table l.seen l.end
