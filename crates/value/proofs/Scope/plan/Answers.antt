-- By the roots of its arguments, and by where its entry goes.
use Prim.Native.Nat.{◌+◌}
use native.Mathlib.Omega.{arith}
use lib.Dec.{lit<}
use mir.Syntax.{w64}
use mir.Val.{SFits}
use mir.Facts.{to_z-of_z}
use borrow.Author.Rules.{rules}
use Rattle.value.proofs.BuiltinLaw.{tag_not}
use Rattle.value.proofs.UpdateLaw.{heads, entries_in, plan_no_key, plan_no_dictionary, plan_keeps, plan_full, found_slot, new_slot}
use Rattle.value.proofs.Scope.plan.Goals as goal
use Rattle.value.proofs.Scope.plan.Goals.{then-key-ne-WHOLE-via-then-key-ne-WHOLE, then-key-ne-WHOLE-via-else-key-ne-WHOLE+then-head-ne-DICTIONARY, in-Ok, in-Err}

pub returns-then-key-ne-WHOLE : goal.returns-then-key-ne-WHOLE
returns-then-key-ne-WHOLE c =
    let f : SFits w64 c.root-key.result.tag = search rules in
    let g : SFits w64 c.root-head.result.tag = search rules in
    elim c.then-key-ne-WHOLE.branch [
      | then-key-ne-WHOLE-via-then-key-ne-WHOLE w ↦ plan_no_key _ _ _ _ c.root-key.result c.root-key.ensures (tag_not _ 2 f (lit< tt) w.if-key-ne-WHOLE.true)
      | then-key-ne-WHOLE-via-else-key-ne-WHOLE+then-head-ne-DICTIONARY w ↦
          plan_no_dictionary _ _ _ _ c.root-key.result c.root-key.ensures c.root-head.result c.root-head.ensures (tag_not _ 5 g (lit< tt) w.if-head-ne-DICTIONARY.true)
    ]

pub search-requires : goal.search-requires
search-requires c =
    let a = heads c.root-key.ensures c.root-head.ensures c.requires.0 c.entry_words.ensures (search rules) (search rules) c.if-key-ne-WHOLE.false c.if-head-ne-DICTIONARY.false in
    rw a.back (entries_in a c.requires.0)

pub returns-then-count : goal.returns-then-count
returns-then-count c =
    let y : SFits w64 c.root-key.result.datum = search rules in
    let a = heads c.root-key.ensures c.root-head.ensures c.requires.0 c.entry_words.ensures (search rules) (search rules) c.if-key-ne-WHOLE.false c.if-head-ne-DICTIONARY.false in
    elim c.match-search.branch [
      | in-Ok w ↦ let few = a.few in let l = rw (w.count-is, a.back) at c.if-count.true in absurd (omega arith)
      | in-Err w ↦
          let l = rw (w.count-is, a.back) at c.if-count.true in
          plan_full a _ _ (a.n + 1) (new_slot (rw (to_z-of_z y, a.back, w.in-Err.is) at c.search.ensures)) (omega arith)
    ]

pub returns : goal.returns
returns c =
    let y : SFits w64 c.root-key.result.datum = search rules in
    let a = heads c.root-key.ensures c.root-head.ensures c.requires.0 c.entry_words.ensures (search rules) (search rules) c.if-key-ne-WHOLE.false c.if-head-ne-DICTIONARY.false in
    elim c.match-search.branch [
      | in-Ok w ↦ rw (to_z-of_z y, w.count-is, a.back) (plan_keeps a _ _ a.n (found_slot (rw (to_z-of_z y, a.back, w.in-Ok.is) at c.search.ensures)) c.requires.0 a.few)
      | in-Err w ↦
          let l = rw (w.count-is, a.back) at c.if-count.false in
          rw (to_z-of_z y, w.count-is, a.back) (plan_keeps a _ _ (a.n + 1) (new_slot (rw (to_z-of_z y, a.back, w.in-Err.is) at c.search.ensures)) c.requires.0 (omega arith))
    ]
