use Rattle.step.proofs.RuleLaw.{fitting_rest, write_is}
use Rattle.step.proofs.rule.Attempt.write_successor.Goals as goal

pub write_right-requires : goal.write_right-requires
write_right-requires c = rw (c.scope-scope.ensures.table, c.scope-scope.ensures.configuration, c.scope-scope.ensures.places) (fitting_rest _ _ _ _ _ _ _ c.right-right.ensures _ c.requires.matched c.requires.words_fit)

pub returns : goal.returns
returns c = write_is _ _ _ _ _ _ _ c.right-right.ensures _ _ _ (rw (c.scope-scope.ensures.table, c.scope-scope.ensures.configuration, c.scope-scope.ensures.places) at c.write_right.ensures)
