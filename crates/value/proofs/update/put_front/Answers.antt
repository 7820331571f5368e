-- One part behind another.
use mathlib.Core.Path.{◌≡◌}
use mathlib.Core.List.{[], ◌∷◌}
use native.Mathlib.Omega.{arith}
use lib.IntN.{pos}
use mir.Syntax.{w64}
use mir.Val.{to_z}
use mir.Facts.{to_z-of_z, to_z_pos}
use Rattle.value.specs.Builtin.{root_of}
use Rattle.value.specs.Copy.{PutContract}
use Rattle.value.proofs.CopyLaw.{put_then}
use Rattle.value.proofs.update.put_front.Goals as goal

pub returns : goal.returns
unfolding root_of
returns c =
    let p = c.requires.0 in
    let a = c.put_root-a in
    let b = c.put_words in
    let d = c.put_root in
    let t : to_z w64 c.args.count ≡ pos c.args.count = to_z_pos w64 (omega arith) in
    let x : PutContract c.args.out.now (pos 5 ∷ pos c.args.count ∷ []) a.new.out a.result = rw t at a.ensures in
    put_then (put_then x b.ensures) (rw (c.whole.ensures, to_z-of_z c.ranges.key) at d.ensures)
