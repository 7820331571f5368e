-- One word more.
use Rattle.std.proofs.Common.{◌+◌, get_or, arith, pos, rules, w64, FitsSigned}
use Rattle.std.proofs.lemmas.Int.{to_z-of_z}
use native.Mathlib.Numerals.{add-one}
use Rattle.words.proofs.CopyUpLaw.{copied_up}
use Rattle.words.proofs.copy_up.Goals as goal

pub loop-i-preserved : goal.loop-i-preserved
loop-i-preserved c =
    let f : FitsSigned w64 (get_or c.loop-i.words (c.args.from + c.loop-i.i) (pos 0)) = search rules in
    rw (to_z-of_z w64 _ f, add-one c.loop-i.i, c.loop-i.invariant) (copied_up c.args.words.now c.args.from c.args.to c.args.count c.requires.0 c.requires.1 c.loop-i.i (omega arith))
