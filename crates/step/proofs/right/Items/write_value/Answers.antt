-- A short call's two words are its value's, a node's two are its own; any other item's words are put as `item` finds them.
use Rattle.std.proofs.Common.{◌+◌, rules, arith, w64, FitsSigned, get_or, pos, ap, of_z}
use Rattle.std.proofs.lemmas.Int.{to_z-of_z}
use Rattle.step.proofs.MatchingVariable.{tag_four}
use Rattle.step.proofs.RightLaw.{node_within, call_needs, evaluated_is, node_words, item_words, item_room}
use Rattle.step.proofs.right.Items.write_value.Goals as goal

pub offset_bounds-self-at : goal.offset_bounds-self-at
offset_bounds-self-at c = let h = node_within c.requires.0.before c.requires.0.rest in let k = c.args.self.short in search rules

pub overflow_add-result : goal.overflow_add-result
overflow_add-result c = let h = node_within c.requires.0.before c.requires.0.rest in let k = c.args.self.short in search rules

pub offset_bounds-self-at-then-tag-ne-VARIABLE : goal.offset_bounds-self-at-then-tag-ne-VARIABLE
offset_bounds-self-at-then-tag-ne-VARIABLE c = let h = node_within c.requires.0.before c.requires.0.rest in let k = c.args.self.short in search rules

pub overflow_add-result-then-tag-ne-VARIABLE : goal.overflow_add-result-then-tag-ne-VARIABLE
overflow_add-result-then-tag-ne-VARIABLE c = let h = node_within c.requires.0.before c.requires.0.rest in let k = c.args.self.short in search rules

pub is_short_call-requires : goal.is_short_call-requires
is_short_call-requires c =
    let t : FitsSigned w64 (get_or c.args.self.scope.now.table.now c.args.at (pos 0)) = search rules in
    record { config = _; starts = _; ends = _; call = call_needs _ _ _ _ _ _ c.requires.0.before (tag_four t c.if-tag-eq-CALL.true) c.requires.1 c.requires.0.rest }

pub short_call-root-requires : goal.short_call-root-requires
short_call-root-requires c =
    let t : FitsSigned w64 (get_or c.args.self.scope.now.table.now c.args.at (pos 0)) = search rules in
    record { ends = _; call = call_needs _ _ _ _ _ _ c.requires.0.before (tag_four t c.if-tag-eq-CALL.true) c.requires.1 c.requires.0.rest; short = c.is_short_call.ensures c.if-is_short_call.true }

pub put-requires : goal.put-requires
put-requires c =
    let t : FitsSigned w64 (get_or c.args.self.scope.now.table.now c.args.at (pos 0)) = search rules in
    item_room _ _ _ _ _ _ c.requires.0.before _ (evaluated_is _ _ _ _ _ _ c.requires.0.before (tag_four t c.if-tag-eq-CALL.true) c.requires.1 _ (c.short_call-root.ensures.over _)) _ c.requires.0

pub returns-then-is_short_call : goal.returns-then-is_short_call
returns-then-is_short_call c =
    let t : FitsSigned w64 (get_or c.args.self.scope.now.table.now c.args.at (pos 0)) = search rules in
    record { words = _; item = item_words _ _ _ _ _ _ c.requires.0.before _ (evaluated_is _ _ _ _ _ _ c.requires.0.before (tag_four t c.if-tag-eq-CALL.true) c.requires.1 _ (c.short_call-root.ensures.over _)); puts = c.put.ensures }

pub bounds-self-at-then-tag-ne-VARIABLE : goal.bounds-self-at-then-tag-ne-VARIABLE
bounds-self-at-then-tag-ne-VARIABLE c = omega (arith, node_within c.requires.0.before c.requires.0.rest)

pub put-requires-then-tag-ne-VARIABLE : goal.put-requires-then-tag-ne-VARIABLE
put-requires-then-tag-ne-VARIABLE c =
    let t : FitsSigned w64 (get_or c.args.self.scope.now.table.now c.args.at (pos 0)) = search rules in
    let d : FitsSigned w64 (get_or c.args.self.scope.now.table.now (c.args.at + 1) (pos 0)) = search rules in
    item_room _ _ _ _ _ _ c.requires.0.before _ (node_words _ _ _ _ _ _ c.requires.0.before (λ p. c.if-tag-ne-VARIABLE.true (ap (of_z w64) p)) (λ p. c.if-tag-eq-CALL.false (ap (of_z w64) p)) _ _ (to_z-of_z w64 _ t) (to_z-of_z w64 _ d)) _ c.requires.0

pub returns-then-tag-ne-VARIABLE : goal.returns-then-tag-ne-VARIABLE
returns-then-tag-ne-VARIABLE c =
    let t : FitsSigned w64 (get_or c.args.self.scope.now.table.now c.args.at (pos 0)) = search rules in
    let d : FitsSigned w64 (get_or c.args.self.scope.now.table.now (c.args.at + 1) (pos 0)) = search rules in
    record { words = _; item = item_words _ _ _ _ _ _ c.requires.0.before _ (node_words _ _ _ _ _ _ c.requires.0.before (λ p. c.if-tag-ne-VARIABLE.true (ap (of_z w64) p)) (λ p. c.if-tag-eq-CALL.false (ap (of_z w64) p)) _ _ (to_z-of_z w64 _ t) (to_z-of_z w64 _ d)); puts = c.put-then-tag-ne-VARIABLE.ensures }

pub put-requires-2 : goal.put-requires-2
put-requires-2 c = item_room _ _ _ _ _ _ c.requires.0.before _ c.item-x.ensures _ c.requires.0

pub returns : goal.returns
returns c = record { words = _; item = item_words _ _ _ _ _ _ c.requires.0.before _ c.item-x.ensures; puts = c.put-2.ensures }
