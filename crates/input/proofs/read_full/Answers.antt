-- A read that gave bytes: they stand behind those that were there, and the reader has lost both.
use Rattle.std.proofs.Common.{◌≡◌, ℕ, ◌+◌, ◌-◌, ◌≤◌, List, ◌++◌, rules, length, take, drop, sym, ap, ◌∙◌, subst, le_refl, drop_at, length-take-le}
use Rattle.std.proofs.lemmas.Slice.{take-put_mid_below}
use Rattle.std.specs.Io.KnownBytes.{Consumes}
use Rattle.std.proofs.KnownBytes.{Consumes-trans}
use borrow.Rule.Slice.PartMut.{put_mid, post_of}
use lib.Seq.{take-add, take-append-le}
use Rattle.input.proofs.read_full.Goals as goal

-- the front of a list, and the first of what was put behind it
front_and_part : (a k n : ℕ) (xs ys : List ℕ) → a ≤ length xs → n ≤ length ys → take a xs ++ take n ys ≡ take (a + n) (put_mid a k xs ys)
front_and_part a k n xs ys within fits =
    let all = put_mid a k xs ys in
    let after = post_of a k xs in
    let front : take a all ≡ take a xs = take-put_mid_below a k xs ys a (le_refl a) within in
    let part : take n (drop a all) ≡ take n ys = ap (take n) (drop_at (take a xs) (ys ++ after) a (length-take-le a xs within)) ∙ take-append-le n ys after fits in
    ap (λ l. l ++ take n ys) (sym front) ∙ ap (λ l. take a all ++ l) (sym part) ∙ sym (take-add a n all)

pub loop-done-preserved : goal.loop-done-preserved
loop-done-preserved g c =
    let done = c.loop-done.done in
    let buffer = c.loop-done.buffer in
    let given = c.in_ok-n.ensures in
    let joined = front_and_part done (length buffer - done) c.in_ok-n.n buffer c.read.new.buf c.loop-done.invariant.0 given.bound.0 in
    let consumed = Consumes-trans _ _ _ _ _ c.loop-done.invariant.2 given.bytes.0 in
    (search rules, search rules, subst (Consumes _ _) joined consumed)
