-- What the node is says what is to come, and what was walked below it.
use Rattle.table.proofs.KindLaw.{none_missed, plain_few, plain_missed, plain_on, argument_on, update_missed, flagged_on, unflagged, literal_few, literal_missed, literal_on}
use Rattle.table.proofs.NodeLaw.{number_small}
use Rattle.table.specs.Level.{Expression}
use Rattle.table.proofs.expression.expression_turn.Goals as goal

pub returns-in_err-children : goal.returns-in_err-children
returns-in_err-children g c = rw c.from_residual.ensures (none_missed c.in_err-children.ensures Expression c.args.seen.now)

pub ground_end-requires : goal.ground_end-requires
ground_end-requires g c =
    let h = rw c.in-Plain.is at c.in_ok-children.ensures in
    (h.node.room, plain_few h c.args.seen.now)

pub returns-in_err-below-in-Plain : goal.returns-in_err-below-in-Plain
returns-in_err-below-in-Plain g c =
    let h = rw c.in-Plain.is at c.in_ok-children.ensures in
    rw c.from_residual-in_err-below-in-Plain.ensures (plain_missed h c.args.seen.now (c.in_err-below-in-Plain.ensures.is c.args.seen.now))

pub returns-in_ok-below-in-Plain : goal.returns-in_ok-below-in-Plain
returns-in_ok-below-in-Plain g c =
    let h = rw c.in-Plain.is at c.in_ok-children.ensures in
    plain_on h c.args.seen.now (c.in_ok-below-in-Plain.ensures.is c.args.seen.now)

pub ground_end-requires-in-Literal : goal.ground_end-requires-in-Literal
ground_end-requires-in-Literal g c =
    let h = rw c.in-Literal.is at c.in_ok-children.ensures in
    (h.node.room, literal_few h)

pub returns-in_err-below-in-Literal : goal.returns-in_err-below-in-Literal
returns-in_err-below-in-Literal g c =
    let h = rw c.in-Literal.is at c.in_ok-children.ensures in
    rw c.from_residual-in_err-below-in-Literal.ensures (literal_missed h Expression c.args.seen.now (c.in_err-below-in-Literal.ensures.is c.args.seen.now))

pub returns-in_ok-below-in-Literal : goal.returns-in_ok-below-in-Literal
returns-in_ok-below-in-Literal g c =
    let h = rw c.in-Literal.is at c.in_ok-children.ensures in
    literal_on h Expression c.args.seen.now (c.in_ok-below-in-Literal.ensures.is c.args.seen.now)

pub returns-in-Call-default-eq17 : goal.returns-in-Call-default-eq17
returns-in-Call-default-eq17 g c =
    let h = rw c.in-Call-default-eq17.is at c.in_ok-children.ensures in
    update_missed h c.args.seen.now c.in-Call-default-eq17.code-test

pub returns-in-Call : goal.returns-in-Call
returns-in-Call g c =
    let h = rw c.in-Call.is at c.in_ok-children.ensures in
    argument_on h c.args.seen.now c.in-Call.code-test.1

pub bounds-seen-number : goal.bounds-seen-number
bounds-seen-number g c = let h = rw c.in-Variable.is at c.in_ok-children.ensures in number_small h.node

pub returns-in-Variable : goal.returns-in-Variable
returns-in-Variable g c =
    let h = rw c.in-Variable.is at c.in_ok-children.ensures in
    flagged_on h c.args.seen.now c.if-seen-number.true

pub returns-in-Variable-2 : goal.returns-in-Variable-2
returns-in-Variable-2 g c =
    let h = rw c.in-Variable.is at c.in_ok-children.ensures in
    unflagged h c.args.seen.now c.if-seen-number.false
