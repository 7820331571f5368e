-- A call that gives one node ends where its term ends; any other item has its value's size.
use Rattle.step.proofs.RightLaw.{node_within, call_needs, call_sized, item_ordered, item_sized}
use Rattle.step.proofs.right.Items.item_size.Goals as goal

pub gives_one_node-requires : goal.gives_one_node-requires
gives_one_node-requires c = node_within c.requires.1 c.requires.0

pub call_end-requires : goal.call_end-requires
call_end-requires c =
    record { config = _; starts = _; ends = _; call = call_needs _ _ _ _ _ _ c.requires.1 (c.gives_one_node.ensures.call c.if-gives_one_node.true) (c.gives_one_node.ensures.expression c.if-gives_one_node.true) c.requires.0 }

pub returns-then-gives_one_node : goal.returns-then-gives_one_node
returns-then-gives_one_node c = call_sized _ _ _ _ _ _ c.requires.1 _ c.gives_one_node.ensures c.if-gives_one_node.true _ c.call_end.ensures

pub is_update-requires : goal.is_update-requires
is_update-requires c = node_within c.requires.1 c.requires.0

pub size-requires : goal.size-requires
size-requires c = item_ordered _ _ _ _ _ _ c.requires.1 _ c.item-x.ensures c.requires.0

pub returns : goal.returns
returns c = item_sized _ _ _ _ _ _ c.requires.1 _ c.item-x.ensures _ c.size.ensures
