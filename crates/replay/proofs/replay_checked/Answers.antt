use Rattle.std.proofs.Common.{◌/◌, length, Err, arith}
use Rattle.std.proofs.lemmas.Result.{err_from_is_err_and}
use Rattle.replay.proofs.ReadingLaw.{checked_is}
use Rattle.replay.proofs.CallLaw.{counted_rules, size_is, not_sized, sizes_hold, lent, narrow, slices_fit, called}
use Rattle.replay.proofs.replay_checked.Goals as goal

-- the check of the sizes refuses
pub returns-in_err-check_sizes : goal.returns-in_err-check_sizes
returns-in_err-check_sizes c =
    let a = c.args in
    let p = err_from_is_err_and c.from_residual.result c.from_residual.ensures.1 in
    let e = c.in_err-check_sizes.field-0.0 in
    rw (p.1, p.2) (not_sized a.game.table.words.now a.game.configuration.words.now a.log.now a.limit a.out.now a.choices.now a.work.now (checked_is a.game.table.indexed) a.game.configuration.accepted e
    (size_is c.replay_short-short.result _ (length a.log.now) (length a.game.configuration.words.now / 2) a.limit c.check_sizes.result (Err e) c.check_sizes.ensures c.replay_short-short.ensures c.in_err-check_sizes.was))

pub overflow_mul-search : goal.overflow_mul-search
overflow_mul-search c =
    let a = c.args in
    let f = sizes_hold a.game.table.words.now a.game.configuration.words.now a.log.now a.limit a.out.now a.choices.now a.work.now c.replay_short-short.result c.check_sizes.result c.check_sizes.ensures c.replay_short-short.ensures c.in_ok-check_sizes.was in
    omega (arith, f.bounded)

pub invariant_of-search : goal.invariant_of-search
invariant_of-search c =
    let a = c.args in
    let f = sizes_hold a.game.table.words.now a.game.configuration.words.now a.log.now a.limit a.out.now a.choices.now a.work.now c.replay_short-short.result c.check_sizes.result c.check_sizes.ensures c.replay_short-short.ensures c.in_ok-check_sizes.was in
    let r = counted_rules a.game.table.words.now a.game.configuration.words.now a.log.now a.limit a.out.now a.choices.now a.work.now (checked_is a.game.table.indexed) a.game.configuration.accepted c.rule_count.result c.rule_count.ensures in
    record { rules_are = r.0; few = r.1; narrow = narrow a.game.table.words.now a.game.configuration.words.now a.log.now a.limit a.out.now a.choices.now a.work.now (checked_is a.game.table.indexed) a.game.configuration.accepted f }

pub replay_accepted-requires-clause-fits : goal.replay_accepted-requires-clause-fits
replay_accepted-requires-clause-fits c =
    let a = c.args in
    let f = sizes_hold a.game.table.words.now a.game.configuration.words.now a.log.now a.limit a.out.now a.choices.now a.work.now c.replay_short-short.result c.check_sizes.result c.check_sizes.ensures c.replay_short-short.ensures c.in_ok-check_sizes.was in
    lent a.game.table.words.now a.game.configuration.words.now a.log.now a.limit a.out.now a.choices.now a.work.now (checked_is a.game.table.indexed) a.game.configuration.accepted f

pub replay_accepted-requires-clause-small : goal.replay_accepted-requires-clause-small
replay_accepted-requires-clause-small c =
    let a = c.args in
    let f = sizes_hold a.game.table.words.now a.game.configuration.words.now a.log.now a.limit a.out.now a.choices.now a.work.now c.replay_short-short.result c.check_sizes.result c.check_sizes.ensures c.replay_short-short.ensures c.in_ok-check_sizes.was in
    slices_fit a.game.table.words.now a.game.configuration.words.now a.log.now a.limit a.out.now a.choices.now a.work.now (checked_is a.game.table.indexed) a.game.configuration.accepted f

pub returns : goal.returns
returns c =
    let a = c.args in
    let f = sizes_hold a.game.table.words.now a.game.configuration.words.now a.log.now a.limit a.out.now a.choices.now a.work.now c.replay_short-short.result c.check_sizes.result c.check_sizes.ensures c.replay_short-short.ensures c.in_ok-check_sizes.was in
    let r = c.replay_accepted in
    called a.game.table.words.now a.game.configuration.words.now a.log.now a.limit a.out.now a.choices.now a.work.now (checked_is a.game.table.indexed) a.game.configuration.accepted f r.new.out r.new.choices r.new.work r.result r.ensures
