-- The rows that were written, and what was checked so far.
use Rattle.std.proofs.Common.{◌≡◌, get_or, pos, Some, None, arith, rules}
use lib.ListN.{drop, take-append-drop}
use Rattle.std.proofs.lemmas.List.{length-take-le, set-append_left, set-get_or}
use Rattle.std.proofs.lemmas.Result.{err_from_is_err_and}
use Rattle.minuska.specs.Computed.Read.{number_below}
use Rattle.minuska.specs.declared.Refusal.TheVariants.{BadTable}
use Rattle.table.specs.Number.{answered}
use Rattle.table.proofs.FillLaw.{refused_empty, refused_long, refused_count, starts, refused_rule, goes_on, row_fits, refused_rest, accepted}
use Rattle.table.proofs.fill.fill.Goals as goal
use Rattle.table.proofs.fill.fill.Goals.{then-n-eq0-via-then-n-eq0, then-n-eq0-via-else-n-eq0+then-n-gt-MAX_TABLE_WORDS}

pub returns-then-n-eq0 : goal.returns-then-n-eq0
returns-then-n-eq0 c =
    elim c.then-n-eq0.branch [
      | then-n-eq0-via-then-n-eq0 w ↦ refused_empty _ _ w.if-n-eq0.true
      | then-n-eq0-via-else-n-eq0+then-n-gt-MAX_TABLE_WORDS w ↦ refused_long _ _ w.if-n-gt-MAX_TABLE_WORDS.true
    ]

pub returns-in_err-count : goal.returns-in_err-count
returns-in_err-count c =
    let p = err_from_is_err_and c.from_residual.result c.from_residual.ensures.1 in
    let v = rw c.in_err-count.ensures.ok_part at c.in_err-count.ensures.value in
    let w : c.in_err-count.field-0.0 ≡ BadTable = cc in
    let e = c.in_err-count.ensures.ok_part in
    let k : None ≡ answered (number_below 257 (get_or c.args.table.now 0 (pos 0))) = search rules in
    rw (p.1, p.2, w) (refused_count _ _ k)

pub loop-row-init : goal.loop-row-init
loop-row-init c =
    let e = c.in_ok-count.ensures.ok_part in
    let k : Some c.in_ok-count.count ≡ answered (number_below 257 (get_or c.args.table.now 0 (pos 0))) = search rules in
    rw take-append-drop (starts _ _ _ (omega arith) (omega arith) k c.told-rows)

pub returns-in_err-parts : goal.returns-in_err-parts
returns-in_err-parts c =
    let p = err_from_is_err_and c.from_residual-in_err-parts.result c.from_residual-in_err-parts.ensures.1 in
    let v = rw c.in_err-parts.ensures.ok_part at c.in_err-parts.ensures.value in
    let w : c.in_err-parts.field-0.0 ≡ BadTable = cc in
    let k = rw c.in_err-parts.ensures.ok_part at c.rule_parts.ensures in
    rw (p.1, p.2, w, set-get_or) (refused_rule _ _ c.loop-row.invariant (let e = length-take-le c.in_ok-count.count c.args.rows.now (omega (arith, c.told-rows, c.loop-row.invariant.few)) in omega (arith, e)) k)

pub row_from-requires : goal.row_from-requires
row_from-requires c =
    let k = rw c.in_ok-parts.ensures.ok_part at c.rule_parts.ensures in
    row_fits _ _ _ k c.loop-row.invariant.short

pub loop-row-preserved : goal.loop-row-preserved
loop-row-preserved c =
    let k = rw c.in_ok-parts.ensures.ok_part at c.rule_parts.ensures in
    let e = length-take-le c.in_ok-count.count c.args.rows.now (omega (arith, c.told-rows, c.loop-row.invariant.few)) in
    rw (c.row_from.ensures, ← set-append_left c.loop-row.row-items (drop c.in_ok-count.count c.args.rows.now) c.loop-row.row-index _ (omega (arith, e))) (goes_on _ _ c.loop-row.invariant (let e = length-take-le c.in_ok-count.count c.args.rows.now (omega (arith, c.told-rows, c.loop-row.invariant.few)) in omega (arith, e)) _ k)

pub returns-then-at-n : goal.returns-then-at-n
returns-then-at-n c = refused_rest _ _ c.loop-row.invariant (let e = length-take-le c.in_ok-count.count c.args.rows.now (omega (arith, c.told-rows, c.loop-row.invariant.few)) in omega (arith, e)) c.if-at-n.true

pub returns : goal.returns
returns c = accepted _ _ c.loop-row.invariant (let e = length-take-le c.in_ok-count.count c.args.rows.now (omega (arith, c.told-rows, c.loop-row.invariant.few)) in omega (arith, e)) c.if-at-n.false
