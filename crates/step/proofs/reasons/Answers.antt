use Rattle.std.proofs.lemmas.Result.{err_from_is_err_and}
use Rattle.step.proofs.AcceptLaw.{refused_reasons}
use Rattle.step.proofs.reasons.Goals as goal

-- the two checks refuse
pub returns-in_err-game : goal.returns-in_err-game
returns-in_err-game c = let p = err_from_is_err_and c.from_residual.result c.from_residual.ensures.1 in rw (p.1, p.2) (refused_reasons _ _ _ _ c.in_err-game.ensures.bad)
