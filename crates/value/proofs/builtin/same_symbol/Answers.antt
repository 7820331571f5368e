use mathlib.Core.Path.{◌∙◌}
use mir.Syntax.{w64}
use mir.Val.{SFits}
use mir.Facts.{to_z-of_z}
use borrow.Author.Rules.{rules}
use Rattle.value.specs.Builtin.{applied}
use Rattle.value.proofs.BuiltinLaw.{is_symbol, no_symbol}
use Rattle.value.proofs.builtin.same_symbol.Goals as goal
use Rattle.value.proofs.builtin.same_symbol.Goals.{then-a-lt-SYMBOL-via-then-a-lt-SYMBOL, then-a-lt-SYMBOL-via-else-a-lt-SYMBOL+then-b-lt-SYMBOL}

pub returns-then-a-lt-SYMBOL : goal.returns-then-a-lt-SYMBOL
unfolding applied
returns-then-a-lt-SYMBOL c =
    let f : SFits w64 c.args.a.tag = search rules in
    let g : SFits w64 c.args.b.tag = search rules in
    elim c.then-a-lt-SYMBOL.branch [
      | then-a-lt-SYMBOL-via-then-a-lt-SYMBOL w ↦ c.truth.ensures ∙ rw (no_symbol c.args.a.tag c.args.a.datum (rw (to_z-of_z f) at w.if-a-lt-SYMBOL.true))
      | then-a-lt-SYMBOL-via-else-a-lt-SYMBOL+then-b-lt-SYMBOL w ↦
          c.truth.ensures ∙
          rw (is_symbol c.args.a.tag c.args.a.datum (rw (to_z-of_z f) at w.if-a-lt-SYMBOL.false), no_symbol c.args.b.tag c.args.b.datum (rw (to_z-of_z g) at w.if-b-lt-SYMBOL.true))
    ]

pub returns : goal.returns
unfolding applied
returns c =
    let f : SFits w64 c.args.a.tag = search rules in
    let g : SFits w64 c.args.b.tag = search rules in
    c.truth-2.ensures ∙ rw (is_symbol c.args.a.tag c.args.a.datum (rw (to_z-of_z f) at c.if-a-lt-SYMBOL.false), is_symbol c.args.b.tag c.args.b.datum (rw (to_z-of_z g) at c.if-b-lt-SYMBOL.false))
