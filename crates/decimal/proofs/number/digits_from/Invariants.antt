-- what is read from here on is what was to be read
use Rattle.std.proofs.Common.{◌≡◌, drop}
use Rattle.decimal.specs.Computed.Number.{digits_from}
use Rattle.decimal.proofs.number.digits_from.Given as goal

abbrev pub invariant-loop-i : goal.invariant-loop-i
invariant-loop-i l = digits_from l.value l.i (drop l.i l.line) ≡ digits_from l.first l.at (drop l.at l.line)
