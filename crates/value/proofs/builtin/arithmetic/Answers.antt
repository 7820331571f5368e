use Rattle.std.proofs.Common.{◌≡◌, arith}
use Rattle.value.specs.Builtin.{applied}
use Rattle.value.proofs.builtin.arithmetic.Goals as goal

pub returns-then-code-eq8 : goal.returns-then-code-eq8
unfolding applied
returns-then-code-eq8 c = λ l. rw c.if-code-eq8.true c.plus.ensures

pub returns : goal.returns
unfolding applied
returns c = λ l.
    let f = c.if-code-eq8.false in
    let e : c.args.code ≡ 9 = omega arith in
    rw e c.minus.ensures
