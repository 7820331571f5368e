-- the numbers so far stand in the slice, and the reader has come to the next
use Rattle.std.proofs.Common.{◌≡◌}
use Rattle.decimal.proofs.LineTurn.{Going}
use Rattle.decimal.proofs.line.read_items.Given as goal

abbrev pub invariant-loop-count : goal.invariant-loop-count
invariant-loop-count g l = record {
  going : Going g.T.Item.field l.line l.fn.out l.out l.reader.at l.count;
  line : l.reader.line.now ≡ l.line;
}
