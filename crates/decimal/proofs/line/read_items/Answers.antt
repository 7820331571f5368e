-- The returns and the turn of the loop: no number, a number that is none of the field, the last number, a number before others, and no room for another.
use mathlib.Core.Path.{refl, sym, ◌∙◌}
use native.Mathlib.Omega.{arith}
use Rattle.std.proofs.lemmas.List.{set-get_or}
use Rattle.decimal.proofs.LineTurn.{no_next, no_item, last_item, next_item, full}
use Rattle.decimal.proofs.line.read_items.Goals as goal

pub returns-in_err-next : goal.returns-in_err-next
returns-in_err-next g c =
    rw (c.from_residual.ensures, set-get_or) (no_next _ _ _ _ _ _ c.loop-count.invariant.going _ _ _ c.next.ensures.steps c.loop-count.invariant.line refl c.in_err-next.was)

pub returns-in_err-place : goal.returns-in_err-place
returns-in_err-place g c =
    rw (c.from_residual-in_err-place.ensures, set-get_or) (no_item _ _ _ _ _ _ c.loop-count.invariant.going _ _ _ c.next.ensures.steps c.loop-count.invariant.line refl _ c.in_ok-next.was (sym c.from_number.ensures ∙ c.in_err-place.was))

pub returns-then-line-reader : goal.returns-then-line-reader
returns-then-line-reader g c =
    last_item _ _ _ _ _ _ c.loop-count.invariant.going _ _ _ c.next.ensures.steps c.loop-count.invariant.line refl _ c.in_ok-next.was _ (sym c.from_number.ensures ∙ c.in_ok-place.was) (omega arith) c.if-line-reader.true

pub loop-count-preserved : goal.loop-count-preserved
loop-count-preserved g c = record {
  going = next_item _ _ _ _ _ _ c.loop-count.invariant.going _ _ _ c.next.ensures.steps c.loop-count.invariant.line refl _ c.in_ok-next.was _ (sym c.from_number.ensures ∙ c.in_ok-place.was) (omega arith) c.if-line-reader.false;
  line = cc;
}

pub returns : goal.returns
returns g c = full _ _ _ _ _ _ c.loop-count.invariant.going (omega arith)
