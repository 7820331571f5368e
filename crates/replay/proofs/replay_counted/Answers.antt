use Rattle.std.proofs.lemmas.Result.{err_from_is_err_and}
use Rattle.replay.proofs.CallLaw.{not_accepted}
use Rattle.replay.proofs.replay_counted.Goals as goal

-- the two checks refuse
pub returns-in_err-game : goal.returns-in_err-game
returns-in_err-game c = let p = err_from_is_err_and c.from_residual.result c.from_residual.ensures.1 in rw (p.1, p.2) (not_accepted _ _ _ _ _ _ _ _ c.in_err-game.ensures.bad)
