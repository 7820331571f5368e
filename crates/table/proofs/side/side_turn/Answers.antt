-- What the node is says what is to come, and what was walked below it.
use Rattle.std.proofs.Common.{rules}
use Rattle.table.proofs.KindLaw.{none_missed, side_plain, side_variable, variable_missed, call_in_left, call_in_right}
use Rattle.table.proofs.NodeLaw.{number_small}
use Rattle.table.proofs.side.side_turn.Goals as goal

pub returns-in_err-children : goal.returns-in_err-children
returns-in_err-children g c = rw c.from_residual.ensures (none_missed c.in_err-children.ensures _ _)

pub returns-in-Plain : goal.returns-in-Plain
returns-in-Plain g c = let h = rw c.in-Plain.is at c.in_ok-children.ensures in side_plain h _ _

pub literal_turn-requires : goal.literal_turn-requires
literal_turn-requires g c = rw c.in-Literal.is at c.in_ok-children.ensures

pub returns-in-Literal : goal.returns-in-Literal
returns-in-Literal g c = c.literal_turn.ensures.at _ _

pub returns-in-Call : goal.returns-in-Call
returns-in-Call g c = let h = rw c.in-Call.is at c.in_ok-children.ensures in call_in_left (search rules) h _

pub call_turn-requires : goal.call_turn-requires
call_turn-requires g c = rw c.in-Call.is at c.in_ok-children.ensures

pub returns-in-Call-2 : goal.returns-in-Call-2
returns-in-Call-2 g c = call_in_right _ _ _ _ _ _ (search rules) c.call_turn.ensures

pub takes_variable-requires : goal.takes_variable-requires
takes_variable-requires g c = let h = rw c.in-Variable.is at c.in_ok-children.ensures in number_small h.node

pub returns-then-not-takes_variable : goal.returns-then-not-takes_variable
returns-then-not-takes_variable g c = let h = rw c.in-Variable.is at c.in_ok-children.ensures in variable_missed h _ _ c.takes_variable.ensures c.if-not-takes_variable.true

pub returns-else-not-takes_variable : goal.returns-else-not-takes_variable
returns-else-not-takes_variable g c = let h = rw c.in-Variable.is at c.in_ok-children.ensures in side_variable h _ _ c.takes_variable.ensures c.if-not-takes_variable.false
