-- A short list, the rule that applies, or else every rule's obstacle.
use Rattle.step.proofs.StuckLaw.{all_fresh, short_list, not_stuck_lem, listed_small, all_listed, is_found, is_not_found}
use Rattle.step.proofs.Game.list_reasons.Goals as goal

pub returns-then-list-count : goal.returns-then-list-count
returns-then-list-count c = short_list _ _ _ _ c.args.self.table.indexed c.args.self.configuration.accepted _ c.rules-count.ensures c.if-list-count.true

pub judge_all-found-requires : goal.judge_all-found-requires
judge_all-found-requires c = all_fresh

pub put_all-requires-clause-small : goal.put_all-requires-clause-small
put_all-requires-clause-small c =
    listed_small _ _ _ _ c.args.self.table.indexed c.args.self.configuration.accepted _ c.rules-count.ensures c.if-list-count.false _ _ c.judge_all-found.ensures (is_not_found _ c.if-is_none.ensures)

pub returns-then-is_none : goal.returns-then-is_none
returns-then-is_none c =
    all_listed _ _ _ _ c.args.self.table.indexed c.args.self.configuration.accepted _ c.rules-count.ensures c.if-list-count.false _ _ c.judge_all-found.ensures (is_not_found _ c.if-is_none.ensures) _ c.put_all.ensures

pub returns-else-is_none : goal.returns-else-is_none
returns-else-is_none c =
    let (n, e) = is_found _ c.if-is_none.ensures in
    not_stuck_lem _ _ _ _ c.args.self.table.indexed c.args.self.configuration.accepted _ c.rules-count.ensures c.if-list-count.false _ _ c.judge_all-found.ensures e
