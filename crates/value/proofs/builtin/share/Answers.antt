use mathlib.Core.Path.{sym, refl, ◌∙◌}
use mathlib.Core.Bool.{true, false}
use lib.Dec.{lit<}
use mir.Syntax.{w64}
use mir.Val.{SFits}
use mir.Facts.{to_z-of_z}
use borrow.Author.Rules.{rules}
use Rattle.minuska.specs.Function.{share_of}
use Rattle.value.specs.Builtin.{applied}
use Rattle.value.proofs.BuiltinLaw.{wholes, tag_is, tag_not, three_value}
use Rattle.value.proofs.builtin.share.Goals as goal
use Rattle.value.proofs.builtin.share.Goals.{else-both-via-then-both+else-c-eq-WHOLE, else-both-via-else-both}

pub returns-then-c-eq-WHOLE : goal.returns-then-c-eq-WHOLE
unfolding applied
returns-then-c-eq-WHOLE c =
    let f : SFits w64 c.args.c.tag = search rules in
    let x : SFits w64 c.args.a.datum = search rules in
    let y : SFits w64 c.args.b.datum = search rules in
    let z : SFits w64 c.args.c.datum = search rules in
    (rw (to_z-of_z x, to_z-of_z y, to_z-of_z z) at c.quotient.ensures) ∙ three_value wholes c.args.a c.args.b c.args.c share_of true true (sym c.if-both.true ∙ c.both.ensures) (tag_is c.args.c.tag 2 f (lit< tt) c.if-c-eq-WHOLE.true)

pub returns : goal.returns
unfolding applied
returns c =
    let f : SFits w64 c.args.c.tag = search rules in
    elim c.else-both.branch [
      | else-both-via-then-both+else-c-eq-WHOLE w ↦
          c.error.ensures ∙ three_value wholes c.args.a c.args.b c.args.c share_of true false (sym w.if-both.true ∙ c.both.ensures) (tag_not c.args.c.tag 2 f (lit< tt) w.if-c-eq-WHOLE.false)
      | else-both-via-else-both w ↦
          c.error.ensures ∙ three_value wholes c.args.a c.args.b c.args.c share_of false _ (sym w.if-both.false ∙ c.both.ensures) refl
    ]
