-- One part behind another.
use native.Mathlib.Omega.{arith}
use borrow.Author.Rules.{rules}
use Rattle.value.specs.Builtin.{root_of}
use Rattle.value.specs.Update.{plan_words}
use Rattle.value.proofs.WordsLaw.{size_is}
use Rattle.value.proofs.WritingLaw.{writes, front_fits, value_room, last_room, put_kept}
use Rattle.value.proofs.Scope.put_plan.Goals as goal

pub put_root-requires : goal.put_root-requires
unfolding plan_words
put_root-requires c = let h = rw c.in_default.is at c.requires.3 in omega arith

pub returns-in_default : goal.returns-in_default
unfolding plan_words root_of
returns-in_default c = rw c.in_default.is (rw c.error.ensures at c.put_root.ensures)

pub put_front-a-requires : goal.put_front-a-requires
put_front-a-requires c = front_fits (writes c.in-Some.is c.requires.2 c.entry_words-words.ensures c.requires.3)

pub put-requires : goal.put-requires
put-requires c =
    let r = value_room (writes c.in-Some.is c.requires.2 c.entry_words-words.ensures c.requires.3) (search rules) c.put_front-a.ensures in
    let n = size_is _ _ c.args.v c.requires.1 in
    (c.requires.1, omega arith)

pub put_words-requires : goal.put_words-requires
put_words-requires c = last_room (writes c.in-Some.is c.requires.2 c.entry_words-words.ensures c.requires.3) (search rules) c.put_front-a.ensures c.put.ensures

pub returns : goal.returns
returns c = put_kept (writes c.in-Some.is c.requires.2 c.entry_words-words.ensures c.requires.3) (search rules) c.put_front-a.ensures c.put.ensures c.put_words.ensures
