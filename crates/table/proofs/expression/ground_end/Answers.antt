-- What the walks of the crate `term` answer, at the level `Ground`.
use Rattle.std.proofs.Common.{rules}
use Rattle.term.proofs.MetLaw.{all_tagged}
use Rattle.table.proofs.GroundLaw.{ground_on, ground_answered, untold}
use Rattle.table.proofs.expression.ground_end.Goals as goal

pub returns-then-this-ne0 : goal.returns-then-this-ne0
returns-then-this-ne0 g c = record { is = λ seen. ground_answered _ _ _ seen _ (search rules) c.requires.0 _ c.ground_terms.ensures }

pub returns-then-reached-ne0 : goal.returns-then-reached-ne0
returns-then-reached-ne0 g c = record { is = λ seen. untold _ _ _ seen (search rules) }

pub returns : goal.returns
returns g c = record { is = λ seen. ground_on _ _ _ seen c.requires.0 (all_tagged _ _ _ _ c.tagged_terms-reached.ensures c.if-reached-ne0.false) (λ m. search rules) }
