use mathlib.Core.Path.{ap}
use native.Mathlib.Omega.{arith}
use lib.Dec.{lit<}
use lib.IntN.{pos}
use lib.ListN.{get_or}
use mir.Syntax.{w64}
use mir.Val.{SFits, of_z}
use borrow.Author.Rules.{rules}
use Rattle.value.proofs.SignedLaw.{lit_pos}
use Rattle.value.proofs.CallLaw.{expression_room}
use Rattle.value.proofs.Scope.evaluate.Goals as goal

pub bounds-self-at : goal.bounds-self-at
bounds-self-at c = let h = expression_room _ _ _ _ _ _ _ _ c.requires.has in omega arith

pub expression-requires : goal.expression-requires
expression-requires c =
    let f : SFits w64 (get_or c.args.self.now.table.now c.args.at (pos 0)) = search rules in
    record { expression = c.requires; tag = lit_pos _ 4 f.sfits (lit< tt) c.if-self-at-eq-CALL.true }

pub leaf-requires : goal.leaf-requires
leaf-requires c = record { config = c.args.self.now.configuration.now; expression = c.requires; tag = λ e. c.if-self-at-eq-CALL.false (ap (of_z w64) e) }
