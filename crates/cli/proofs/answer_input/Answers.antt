-- The returns: a line that is not as it should be, and all four lines read.
use mathlib.Core.Path.{sym, ◌∙◌}
use Rattle.cli.proofs.LinesLaw.{taken}
use Rattle.cli.proofs.RequestTurn.{took, not_took, unread, no_lines, no_table, no_configuration, no_log, no_limit, all_read}
use Rattle.cli.proofs.answer_input.Goals as goal

pub returns-in_err-lines : goal.returns-in_err-lines
returns-in_err-lines c = rw c.from_residual.ensures (unread (no_lines _ c.four_lines.ensures c.in_err-lines.was))

pub returns-in_err-words : goal.returns-in_err-words
returns-in_err-words c =
    rw c.from_residual-in_err-words.ensures (unread (no_table _ c.four_lines.ensures c.in_ok-lines.was (not_took c.read_items.ensures c.in_err-words.was)))

pub returns-in_err-more : goal.returns-in_err-more
returns-in_err-more c =
    let table = took c.read_items.ensures c.in_ok-words.was c.read_items.auto.out in
    rw c.from_residual-in_err-more.ensures
    (unread (no_configuration _ c.four_lines.ensures c.in_ok-lines.was table.is (not_took c.read_items-2.ensures c.in_err-more.was)))

pub returns-in_err-actions : goal.returns-in_err-actions
returns-in_err-actions c =
    let table = took c.read_items.ensures c.in_ok-words.was c.read_items.auto.out in
    let configuration = took c.read_items-2.ensures c.in_ok-more.was c.read_items-2.auto.out in
    rw c.from_residual-in_err-actions.ensures
    (unread (no_log _ c.four_lines.ensures c.in_ok-lines.was table.is configuration.is (not_took c.read_log.ensures c.in_err-actions.was)))

pub returns-in_err-limit : goal.returns-in_err-limit
returns-in_err-limit c =
    let table = took c.read_items.ensures c.in_ok-words.was c.read_items.auto.out in
    let configuration = took c.read_items-2.ensures c.in_ok-more.was c.read_items-2.auto.out in
    let log = took c.read_log.ensures c.in_ok-actions.was c.read_log.auto.out in
    rw c.from_residual-in_err-limit.ensures
    (unread (no_limit _ c.four_lines.ensures c.in_ok-lines.was table.is configuration.is log.is (sym c.read_limit.ensures ∙ c.in_err-limit.was)))

pub slice_bounds-table-end : goal.slice_bounds-table-end
slice_bounds-table-end c = (took c.read_items.ensures c.in_ok-words.was c.read_items.auto.out).within

pub slice_bounds-answer_request-end : goal.slice_bounds-answer_request-end
slice_bounds-answer_request-end c = taken _ _ (took c.read_items.ensures c.in_ok-words.was c.read_items.auto.out).within

pub slice_bounds-configuration-end : goal.slice_bounds-configuration-end
slice_bounds-configuration-end c = (took c.read_items-2.ensures c.in_ok-more.was c.read_items-2.auto.out).within

pub slice_bounds-answer_request-end-2 : goal.slice_bounds-answer_request-end-2
slice_bounds-answer_request-end-2 c = taken _ _ (took c.read_items-2.ensures c.in_ok-more.was c.read_items-2.auto.out).within

pub slice_bounds-log-end : goal.slice_bounds-log-end
slice_bounds-log-end c = (took c.read_log.ensures c.in_ok-actions.was c.read_log.auto.out).within

pub slice_bounds-answer_request-end-3 : goal.slice_bounds-answer_request-end-3
slice_bounds-answer_request-end-3 c = taken _ _ (took c.read_log.ensures c.in_ok-actions.was c.read_log.auto.out).within

pub returns : goal.returns
returns c =
    let table = took c.read_items.ensures c.in_ok-words.was c.read_items.auto.out in
    let configuration = took c.read_items-2.ensures c.in_ok-more.was c.read_items-2.auto.out in
    let log = took c.read_log.ensures c.in_ok-actions.was c.read_log.auto.out in
    rw (all_read _ c.four_lines.ensures c.in_ok-lines.was table.is configuration.is log.is (sym c.read_limit.ensures ∙ c.in_ok-limit.was)) c.answer_request.ensures
