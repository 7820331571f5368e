-- One word more.
use Rattle.std.proofs.Common.{get_or, arith, pos, rules, w64, FitsSigned}
use Rattle.std.proofs.lemmas.Int.{to_z-of_z}
use native.Mathlib.Numerals.{add-one}
use lib.Seq.{paste-suc}
use Rattle.words.proofs.copy.Goals as goal

pub loop-i-preserved : goal.loop-i-preserved
loop-i-preserved c =
    let f : FitsSigned w64 (get_or c.args.from.now c.loop-i.i (pos 0)) = search rules in
    rw (to_z-of_z w64 _ f, add-one c.loop-i.i, c.loop-i.invariant) (paste-suc c.args.to.now c.args.at c.args.from.now c.loop-i.i (pos 0) (omega arith) (omega arith))
