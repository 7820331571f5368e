use mathlib.Core.Path.{◌∙◌}
use mathlib.Core.Bool.{Bool, true, false, not}
use lib.Dec.{lit<}
use mir.Syntax.{w64}
use mir.Val.{SFits}
use borrow.Author.Rules.{rules}
use Rattle.minuska.specs.Term.{Term}
use Rattle.minuska.specs.Function.{truth_term}
use Rattle.value.specs.Builtin.{applied}
use Rattle.value.proofs.BuiltinLaw.{truths, tag_is, tag_not, one_value}
use Rattle.value.proofs.builtin.neg.Goals as goal

abbrev meant : Bool → Term
meant x = truth_term (not x)

pub returns-then-a-eq-TRUTH : goal.returns-then-a-eq-TRUTH
unfolding applied
returns-then-a-eq-TRUTH c =
    let f : SFits w64 c.args.a.tag = search rules in
    c.truth.ensures ∙ one_value truths c.args.a meant true (tag_is c.args.a.tag 1 f (lit< tt) c.if-a-eq-TRUTH.true)

pub returns : goal.returns
unfolding applied
returns c =
    let f : SFits w64 c.args.a.tag = search rules in
    c.error.ensures ∙ one_value truths c.args.a meant false (tag_not c.args.a.tag 1 f (lit< tt) c.if-a-eq-TRUTH.false)
