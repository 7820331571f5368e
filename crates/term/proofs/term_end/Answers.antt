-- The root is read; the term ends behind it, or where its children do.
use Rattle.std.proofs.Common.{rules}
use Rattle.term.proofs.TermEndLaw.{root_node, ends_behind, children_at_lem, ends_with}
use Rattle.term.proofs.term_end.Goals as goal

pub walked_children-children-requires : goal.walked_children-children-requires
walked_children-children-requires g c = root_node c.requires (search rules) (search rules)

pub returns-then-children-eq0 : goal.returns-then-children-eq0
returns-then-children-eq0 g c = ends_behind c.requires (search rules) (search rules) c.walked_children-children.ensures c.if-children-eq0.true

pub terms_end-requires : goal.terms_end-requires
terms_end-requires g c = children_at_lem c.requires (search rules) (search rules) c.walked_children-children.ensures

pub returns : goal.returns
returns g c = ends_with c.requires (search rules) (search rules) c.walked_children-children.ensures c.terms_end.ensures
