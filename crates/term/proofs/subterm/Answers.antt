-- The term that stands at the place, and its end.
use Rattle.std.proofs.Common.{◌∙◌, sym, arith}
use Rattle.term.proofs.CheckLaw.{found, found_at, found_within, found_part, past_part, refused_part}
use Rattle.term.proofs.subterm.Goals as goal
use Rattle.term.proofs.subterm.Goals.{then-words-place-via-then-words-place, then-words-place-via-else-words-place+then-is_err}

pub returns-then-words-place : goal.returns-then-words-place
returns-then-words-place c =
    elim c.then-words-place.branch [
      | then-words-place-via-then-words-place w ↦ past_part c.args.words.now c.args.place w.if-words-place.true
      | then-words-place-via-else-words-place+then-is_err w ↦ refused_part c.args.words.now c.args.place _ w.check_configuration.ensures (sym w.is_err.ensures.value ∙ w.if-is_err.true)
    ]

pub ground_end-e-requires : goal.ground_end-e-requires
ground_end-e-requires c = found_at _ _ (found _ _ _ c.check_configuration.ensures (sym c.is_err.ensures.value ∙ c.if-is_err.false) c.if-words-place.false)

pub slice_bounds-result-count : goal.slice_bounds-result-count
slice_bounds-result-count c = (found_within _ _ (found _ _ _ c.check_configuration.ensures (sym c.is_err.ensures.value ∙ c.if-is_err.false) c.if-words-place.false) _ c.ground_end-e.ensures).0

pub slice_bounds-result-start : goal.slice_bounds-result-start
slice_bounds-result-start c =
    let w = found_within c.args.words.now c.args.place (found _ _ _ c.check_configuration.ensures (sym c.is_err.ensures.value ∙ c.if-is_err.false) c.if-words-place.false) _ c.ground_end-e.ensures in
    omega arith

pub slice_bounds-result-end-2 : goal.slice_bounds-result-end-2
slice_bounds-result-end-2 c =
    let w = found_within c.args.words.now c.args.place (found _ _ _ c.check_configuration.ensures (sym c.is_err.ensures.value ∙ c.if-is_err.false) c.if-words-place.false) _ c.ground_end-e.ensures in
    omega arith

pub returns : goal.returns
returns c = found_part _ _ (found _ _ _ c.check_configuration.ensures (sym c.is_err.ensures.value ∙ c.if-is_err.false) c.if-words-place.false) _ c.ground_end-e.ensures
