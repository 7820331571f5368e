-- After i turns the first i words are copied.
use Rattle.std.proofs.Common.{◌≡◌, take, drop}
use Rattle.std.proofs.Math.Seq.{paste}
use Rattle.words.proofs.copy_up.Given as goal

abbrev pub invariant-loop-i : goal.invariant-loop-i
invariant-loop-i l = l.words ≡ paste l.fn.words l.fn.to (take l.fn.count (drop l.fn.from l.fn.words)) l.i
