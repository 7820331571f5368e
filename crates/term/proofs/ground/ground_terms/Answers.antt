use Rattle.term.proofs.MetLaw.{all_tagged}
use Rattle.term.proofs.ground.ground_terms.Goals as goal

pub returns-then-reached-eq0 : goal.returns-then-reached-eq0
returns-then-reached-eq0 c = all_tagged _ _ _ _ c.tagged_terms-reached.ensures c.if-reached-eq0.true
