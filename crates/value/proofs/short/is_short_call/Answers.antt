use mathlib.Core.Path.{sym, ◌∙◌}
use native.Mathlib.Omega.{arith}
use Prim.Native.Nat.{◌+◌}
use lib.IntN.{pos}
use lib.ListN.{get_or}
use mir.Syntax.{w64}
use mir.Val.{SFits}
use mir.Facts.{to_z-of_z}
use borrow.Author.Rules.{rules}
use Rattle.value.proofs.ShortLaw.{two_there}
use Rattle.value.proofs.short.is_short_call.Goals as goal

pub bounds-table-at-2 : goal.bounds-table-at-2
bounds-table-at-2 c = let h = two_there c.requires (sym c.arity.ensures ∙ c.if-arity-ne2.false) in let r = h.first in omega arith

pub bounds-table-at-then-table-at-lt-CALL : goal.bounds-table-at-then-table-at-lt-CALL
bounds-table-at-then-table-at-lt-CALL c =
    let h = two_there c.requires (sym c.arity.ensures ∙ c.if-arity-ne2.false) in
    let f : SFits w64 (get_or c.args.table.now (c.args.at + 2) (pos 0)) = search rules in
    let r = h.second (rw (to_z-of_z f) at c.if-table-at-lt-CALL.true) in
    omega arith

pub returns-then-table-at-lt-CALL : goal.returns-then-table-at-lt-CALL
returns-then-table-at-lt-CALL c =
    let h = two_there c.requires (sym c.arity.ensures ∙ c.if-arity-ne2.false) in
    let f : SFits w64 (get_or c.args.table.now (c.args.at + 2) (pos 0)) = search rules in
    let g : SFits w64 (get_or c.args.table.now (c.args.at + 4) (pos 0)) = search rules in
    λ q. record {
      no_lookup = λ p. c.if-code-eq-LOOKUP.false (h.code ∙ p);
      two = h.two;
      first = rw (to_z-of_z f) at c.if-table-at-lt-CALL.true;
      second = rw (to_z-of_z g) at q;
    }
