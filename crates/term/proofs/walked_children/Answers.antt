use Rattle.std.proofs.Common.{arith}
use Rattle.std.proofs.lemmas.Int.{to_z-of_z}
use Rattle.term.proofs.NodeLaw.{any_count, plain_count}
use Rattle.term.proofs.walked_children.Goals as goal

pub returns-then-this-ne0 : goal.returns-then-this-ne0
returns-then-this-ne0 g c = grind (arith, to_z-of_z, any_count _ _ _ c.requires)

pub returns-else-this-ne0 : goal.returns-else-this-ne0
returns-else-this-ne0 g c = rw c.if-this-ne0.false (let w = rw c.if-this-ne0.false at c.requires in grind (arith, to_z-of_z, plain_count _ _ w))
