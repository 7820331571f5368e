-- The walk from its turns (`SearchLaw`), at the key and the word as they are read back.
use mathlib.Core.Path.{◌≡◌, refl, subst}
use Prim.Native.Nat.{ℕ, ◌+◌, ◌-◌}
use native.Mathlib.Omega.{arith}
use lib.IntN.{pos}
use lib.ListN.{get_or}
use mir.Syntax.{w64}
use mir.Val.{SFits}
use mir.Facts.{to_z-of_z}
use borrow.Author.Rules.{rules}
use Rattle.value.proofs.SignedLaw.{word_is, word_not}
use Rattle.value.proofs.SearchLaw.{Searching, search_start, search_end, search_room, search_value, search_stop, search_here, search_on}
use Rattle.value.proofs.search.search.Goals as goal

pub loop-init : goal.loop-init
loop-init c = search_start _ _ (omega arith)

-- an entry stands there
come : (c : goal.In-loop) → Searching c.args.s.now c.args.at c.args.n c.args.key c.loop.i (c.args.n - c.loop.counter)
come c = rw (to_z-of_z c.ranges.key) at c.loop.invariant

pub overflow_add-here : goal.overflow_add-here
overflow_add-here c = let r = search_room (come c) c.requires (omega arith) in omega arith

pub offset_bounds-s-i : goal.offset_bounds-s-i
offset_bounds-s-i c = let r = search_room (come c) c.requires (omega arith) in omega arith

pub bounds-s-i : goal.bounds-s-i
bounds-s-i c = let r = search_room (come c) c.requires (omega arith) in omega arith

pub returns-then-key-here : goal.returns-then-key-here
returns-then-key-here c =
    let f : SFits w64 (get_or c.args.s.now (c.loop.i + 1) (pos 0)) = search rules in
    let h : Searching c.args.s.now c.args.at c.args.n c.args.key c.loop.i (c.args.n - c.loop.counter) = rw (to_z-of_z c.ranges.key) at c.loop.invariant in
    search_stop h c.requires (omega arith) _ refl (rw (to_z-of_z c.ranges.key, to_z-of_z f) at c.if-key-here.true)

pub overflow_add-i : goal.overflow_add-i
overflow_add-i c =
    let h : Searching c.args.s.now c.args.at c.args.n c.args.key c.loop.i (c.args.n - c.loop.counter) = rw (to_z-of_z c.ranges.key) at c.loop.invariant in
    let r = search_room h c.requires (omega arith) in
    omega arith

pub ground_end-to-requires : goal.ground_end-to-requires
ground_end-to-requires c =
    let h : Searching c.args.s.now c.args.at c.args.n c.args.key c.loop.i (c.args.n - c.loop.counter) = rw (to_z-of_z c.ranges.key) at c.loop.invariant in
    search_value h c.requires (omega arith)

pub returns-then-key-here-2 : goal.returns-then-key-here-2
returns-then-key-here-2 c =
    let f : SFits w64 (get_or c.args.s.now (c.loop.i + 1) (pos 0)) = search rules in
    let h : Searching c.args.s.now c.args.at c.args.n c.args.key c.loop.i (c.args.n - c.loop.counter) = rw (to_z-of_z c.ranges.key) at c.loop.invariant in
    search_here h c.requires (omega arith) _ refl c.ground_end-to.result c.ground_end-to.ensures (word_is _ _ c.ranges.key f c.if-key-here-2.true)

pub loop-preserved : goal.loop-preserved
loop-preserved c =
    let f : SFits w64 (get_or c.args.s.now (c.loop.i + 1) (pos 0)) = search rules in
    let h : Searching c.args.s.now c.args.at c.args.n c.args.key c.loop.i (c.args.n - c.loop.counter) = rw (to_z-of_z c.ranges.key) at c.loop.invariant in
    let n : c.args.n - c.loop.counter - 1 ≡ c.args.n - (c.loop.counter + 1) = omega arith in
    rw (to_z-of_z c.ranges.key)
    (subst (λ (m : ℕ). Searching c.args.s.now c.args.at c.args.n c.args.key c.ground_end-to.result m) n
    (search_on h c.requires (omega arith) _ refl c.ground_end-to.result c.ground_end-to.ensures (rw (to_z-of_z c.ranges.key, to_z-of_z f) at c.if-key-here.false) (word_not _ _ c.ranges.key f c.if-key-here-2.false)))

pub returns : goal.returns
returns c =
    let h : Searching c.args.s.now c.args.at c.args.n c.args.key c.loop.i (c.args.n - c.loop.counter) = rw (to_z-of_z c.ranges.key) at c.loop.invariant in
    search_end h (omega arith)
