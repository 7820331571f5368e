-- At most one term stands at a place, so whatever term stands there is the call.
use mathlib.Core.Path.{◌≡◌, refl, sym, ◌∙◌, ap}
use Prim.Native.Nat.{ℕ, ◌+◌}
use lib.ListN.{length}
use Rattle.minuska.specs.Term.{Forest, single}
use Rattle.minuska.specs.Word.{encode}
use Rattle.minuska.proofs.Bridge.ShapeLaw.{ok_shapely}
use Rattle.minuska.proofs.Bridge.UniqueLaw.{count_unique}
use Rattle.value.proofs.ExpressionLaw.{is_call}
use Rattle.value.proofs.ShortLaw.{call_long}
use Rattle.value.proofs.short.call_end.Goals as goal

pub returns-then-is_short_call : goal.returns-then-is_short_call
returns-then-is_short_call c =
    let p = c.requires.call in
    let e = p.expression in
    let x = e.has.placed in
    let six : length (encode (single e.expression)) ≡ 6 = call_long _ _ _ _ _ e.valuation e.expression e.term (is_call _ _ _ _ _ _ _ _ e.has p.tag) (c.is_short_call.ensures c.if-is_short_call.true) in
    record {
      ends = λ t shape stands.
          ap (λ (n : ℕ). c.args.at + n) (sym six) ∙ ap (λ (f : Forest). c.args.at + length (encode f)) (count_unique (single e.expression) (single t) (ok_shapely (single e.expression) x.good) shape x.stands stands refl);
    }

pub expression_end-requires : goal.expression_end-requires
expression_end-requires c =
    let e = c.requires.call.expression in
    record { term = e.expression; shape = ok_shapely (single e.expression) e.has.placed.good; stands = e.has.placed.stands }
