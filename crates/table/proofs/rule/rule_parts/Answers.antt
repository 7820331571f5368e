-- The parts that are found are those of the rule that is read there.
use Rattle.std.proofs.Common.{◌≡◌, ◌+◌, get_or, pos, Some, arith, rules}
use Rattle.minuska.specs.Computed.Read.{number_below}
use Rattle.table.specs.Number.{answered}
use Rattle.table.proofs.RuleLaw.{rule_short, left_missed, right_missed, conditions_none, rule_found}
use Rattle.table.proofs.rule.rule_parts.Goals as goal
use Rattle.table.proofs.rule.rule_parts.Goals.{then-n-lt-HEADER-via-then-n-lt-HEADER, then-n-lt-HEADER-via-else-n-lt-HEADER+then-n-at}

pub returns-then-n-lt-HEADER : goal.returns-then-n-lt-HEADER
returns-then-n-lt-HEADER c =
    rule_short c.args.table.now c.args.at (elim c.then-n-lt-HEADER.branch [
      | then-n-lt-HEADER-via-then-n-lt-HEADER w ↦ omega arith
      | then-n-lt-HEADER-via-else-n-lt-HEADER+then-n-at w ↦ omega arith
    ])

pub returns-in_err-left : goal.returns-in_err-left
returns-in_err-left c =
    let a : Some c.in_ok-action.action ≡ answered (number_below 65536 (get_or c.args.table.now c.args.at (pos 0))) = search rules in
    let k : Some c.in_ok-count.count ≡ answered (number_below 9 (get_or c.args.table.now (c.args.at + 1) (pos 0))) = search rules in
    rw c.from_residual-in_err-left.ensures (left_missed c.args.table.now c.args.at (omega arith) _ a _ k c.in_err-left.ensures)

pub returns-in_err-right : goal.returns-in_err-right
returns-in_err-right c =
    let a : Some c.in_ok-action.action ≡ answered (number_below 65536 (get_or c.args.table.now c.args.at (pos 0))) = search rules in
    let k : Some c.in_ok-count.count ≡ answered (number_below 9 (get_or c.args.table.now (c.args.at + 1) (pos 0))) = search rules in
    rw c.from_residual-in_err-right.ensures (right_missed c.args.table.now c.args.at (omega arith) _ a _ k c.in_ok-left.ensures c.in_err-right.ensures)

pub returns-in_err-end : goal.returns-in_err-end
returns-in_err-end c =
    let a : Some c.in_ok-action.action ≡ answered (number_below 65536 (get_or c.args.table.now c.args.at (pos 0))) = search rules in
    let k : Some c.in_ok-count.count ≡ answered (number_below 9 (get_or c.args.table.now (c.args.at + 1) (pos 0))) = search rules in
    rw c.from_residual-in_err-end.ensures (conditions_none c.args.table.now c.args.at (omega arith) _ a _ k c.in_ok-left.ensures c.in_ok-right.ensures c.in_err-end.ensures)

pub returns : goal.returns
returns c =
    let a : Some c.in_ok-action.action ≡ answered (number_below 65536 (get_or c.args.table.now c.args.at (pos 0))) = search rules in
    let k : Some c.in_ok-count.count ≡ answered (number_below 9 (get_or c.args.table.now (c.args.at + 1) (pos 0))) = search rules in
    rule_found c.args.table.now c.args.at (omega arith) _ a _ k c.in_ok-left.ensures c.in_ok-right.ensures _ c.in_ok-end.ensures
