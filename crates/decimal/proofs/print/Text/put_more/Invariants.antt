-- so many of the numbers stand, each behind a comma
use Rattle.std.proofs.Common.{◌≤◌, ◌+◌, ◌*◌, take, map}
use Rattle.decimal.specs.Line.{continued}
use Rattle.decimal.specs.Computed.Put.{Puts}
use Rattle.decimal.proofs.print.Text.put_more.Given as goal

abbrev pub invariant-loop-number : goal.invariant-loop-number
invariant-loop-number g l = record {
  puts : Puts l.fn.self (continued (map g.T.Item.shown (take l.number-index l.numbers))) l.self;
  room : l.self.at ≤ l.fn.self.at + 21 * l.number-index;
}
