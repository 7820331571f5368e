-- A node stands where the walk is, and the terms behind it end where all do.
use Rattle.std.proofs.Common.{arith, rules}
use Rattle.term.proofs.TermEndLaw.{stored_node, stored_few, stored_on}
use Rattle.term.proofs.terms_end.Goals as goal

pub walked_children-requires : goal.walked_children-requires
walked_children-requires g c = stored_node c.loop-k.invariant c.requires c.loop-k-test.true (search rules) (search rules)

pub overflow_add-k : goal.overflow_add-k
overflow_add-k g c = omega (arith, stored_few c.loop-k.invariant c.requires c.loop-k-test.true (search rules) (search rules) c.walked_children.ensures)

pub loop-k-preserved : goal.loop-k-preserved
loop-k-preserved g c = stored_on c.loop-k.invariant c.requires c.loop-k-test.true (search rules) (search rules) c.walked_children.ensures
