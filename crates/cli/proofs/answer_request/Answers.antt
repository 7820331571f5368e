-- A return for each answer of the replay, and the parts of `choices` and `out` that hold what was found.
use mathlib.Core.Path.{refl}
use native.Mathlib.Omega.{arith}
use Rattle.std.proofs.lemmas.Result.{err_from_is_err_and}
use Rattle.decimal.proofs.PrintTurn.{puts_none}
use Rattle.cli.proofs.LinesLaw.{taken}
use Rattle.cli.proofs.AnswerTurn.{not_reproduced_answer, refused_answer, shown}
use Rattle.cli.proofs.answer_request.Goals as goal

pub returns-in_err-answer : goal.returns-in_err-answer
returns-in_err-answer c =
    let p = err_from_is_err_and c.from_residual.result c.from_residual.ensures.1 in
    rw (p.1, p.2) (puts_none _, refused_answer c.replay_counted.ensures refl refl refl _ c.in_err-answer.was)

pub slice_bounds-choices-end : goal.slice_bounds-choices-end
slice_bounds-choices-end c = (shown c.replay_counted.ensures refl refl refl c.in_ok-answer.was c.in-Some.is c.replay_counted.auto.out c.replay_counted.auto.choices).choices_room

pub slice_bounds-put_reproduced-end : goal.slice_bounds-put_reproduced-end
slice_bounds-put_reproduced-end c = taken _ _ (shown c.replay_counted.ensures refl refl refl c.in_ok-answer.was c.in-Some.is c.replay_counted.auto.out c.replay_counted.auto.choices).choices_room

pub overflow_mul-out : goal.overflow_mul-out
overflow_mul-out c = omega (arith, (shown c.replay_counted.ensures refl refl refl c.in_ok-answer.was c.in-Some.is c.replay_counted.auto.out c.replay_counted.auto.choices).words_room)

pub slice_bounds-out-end : goal.slice_bounds-out-end
slice_bounds-out-end c = omega (arith, (shown c.replay_counted.ensures refl refl refl c.in_ok-answer.was c.in-Some.is c.replay_counted.auto.out c.replay_counted.auto.choices).words_room)

pub slice_bounds-put_reproduced-end-in-Some : goal.slice_bounds-put_reproduced-end-in-Some
slice_bounds-put_reproduced-end-in-Some c = taken _ _ (omega (arith, (shown c.replay_counted.ensures refl refl refl c.in_ok-answer.was c.in-Some.is c.replay_counted.auto.out c.replay_counted.auto.choices).words_room))

pub returns-in-Some : goal.returns-in-Some
returns-in-Some c = rw (shown c.replay_counted.ensures refl refl refl c.in_ok-answer.was c.in-Some.is c.replay_counted.auto.out c.replay_counted.auto.choices).text c.put_reproduced.ensures

pub returns-in-None : goal.returns-in-None
returns-in-None c = rw (not_reproduced_answer c.replay_counted.ensures refl refl refl c.in_ok-answer.was c.in-None.is) c.put_not_reproduced.ensures
