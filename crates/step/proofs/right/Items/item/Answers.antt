-- At a call it is what is evaluated, else a piece.
use Rattle.std.proofs.Common.{rules, w64, FitsSigned, get_or, pos, ap, of_z}
use Rattle.step.proofs.MatchingVariable.{tag_four}
use Rattle.step.proofs.RightLaw.{node_within, evaluate_needs, evaluated_is}
use Rattle.step.proofs.right.Items.item.Goals as goal

pub offset_bounds-self-at : goal.offset_bounds-self-at
offset_bounds-self-at c = let h = node_within c.requires.0.1 c.requires.0.0 in let k = c.args.self.short in search rules

pub evaluate-requires : goal.evaluate-requires
evaluate-requires c =
    let t : FitsSigned w64 (get_or c.args.self.scope.now.table.now c.args.at (pos 0)) = search rules in
    evaluate_needs _ _ _ _ _ _ c.requires.0.1 (tag_four t c.if-self-at-eq-CALL.true) c.requires.1 c.requires.0.0

pub returns-then-self-at-eq-CALL : goal.returns-then-self-at-eq-CALL
returns-then-self-at-eq-CALL c =
    let t : FitsSigned w64 (get_or c.args.self.scope.now.table.now c.args.at (pos 0)) = search rules in
    evaluated_is _ _ _ _ _ _ c.requires.0.1 (tag_four t c.if-self-at-eq-CALL.true) c.requires.1 _ c.evaluate.ensures

pub piece-requires : goal.piece-requires
piece-requires c = record { configuration = c.args.self.scope.now.configuration.now; end = c.args.self.end; before = c.requires.0.1; rest = c.requires.0.0; no_call = λ e. c.if-self-at-eq-CALL.false (ap (of_z w64) e) }

pub returns : goal.returns
returns c = record { is = λ ρ f us r. c.piece.ensures.is _ _ ρ f us c.requires.0.1 r }
