use mathlib.Core.Path.{◌≡◌, subst}
use native.Mathlib.Omega.{arith}
use Prim.Native.Nat.{ℕ, ◌+◌}
use lib.Dec.{lit<}
use lib.IntN.{pos}
use lib.ListN.{get_or}
use mir.Syntax.{w64}
use mir.Val.{SFits}
use mir.Facts.{to_z-of_z}
use borrow.Author.Rules.{rules}
use Rattle.value.specs.Evaluate.{ConditionContract}
use Rattle.value.specs.declared.Value.TheVariants.{Computed}
use Rattle.value.proofs.SignedLaw.{lit_pos}
use Rattle.value.proofs.CallLaw.{expression_room, the_call}
use Rattle.value.proofs.ShortLaw.{six}
use Rattle.value.proofs.ConditionLaw.{first_meant, behind, behind_room, literal, by_node, second_meant, by_values}
use Rattle.value.proofs.Scope.condition.Goals as goal

pub bounds-self-at-then-is_short_call : goal.bounds-self-at-then-is_short_call
bounds-self-at-then-is_short_call c =
    let f : SFits w64 (get_or c.args.self.now.table.now c.args.at (pos 0)) = search rules in
    let p = c.requires in
    let k = the_call c.args.self.now.table.now c.args.self.now.configuration.now c.args.self.now.places.now.starts c.args.self.now.places.now.ends c.args.at _ _ _ p.stands.first_has (lit_pos _ 4 f.sfits (lit< tt) c.if-self-at-eq-CALL.true) in
    let l = six c.args.self.now.table.now c.args.self.now.configuration.now c.args.self.now.places.now.starts c.args.self.now.places.now.ends c.args.at _ _ _ k (c.is_short_call.ensures c.if-is_short_call.true) in
    let r = expression_room _ _ _ _ _ _ _ _ p.stands.second_has in
    omega arith

pub is_node-requires : goal.is_node-requires
is_node-requires c =
    let f : SFits w64 (get_or c.args.self.now.table.now (c.args.at + 6) (pos 0)) = search rules in
    let low = rw (to_z-of_z f) at c.if-self-at-lt-VARIABLE.true in
    (record { term = _; is = (first_meant c.args.self.now.table.now c.args.self.now.configuration.now c.args.self.now.places.now.starts c.args.self.now.places.now.ends c.args.at (record { value = Computed c.short_call-root.result; next = c.args.at + 6 }) (c.short_call-root.ensures.over _) c.requires.valuation c.requires.condition c.requires.stands).is }, record { term = _; is = (literal c.args.self.now.table.now c.args.self.now.configuration.now c.args.self.now.places.now.starts c.args.self.now.places.now.ends c.args.at (record { value = Computed c.short_call-root.result; next = c.args.at + 6 }) (c.short_call-root.ensures.over _) low c.requires.valuation c.requires.condition c.requires.stands).is })

pub returns-then-self-at-lt-VARIABLE : goal.returns-then-self-at-lt-VARIABLE
returns-then-self-at-lt-VARIABLE c =
    let f : SFits w64 (get_or c.args.self.now.table.now (c.args.at + 6) (pos 0)) = search rules in
    let low = rw (to_z-of_z f) at c.if-self-at-lt-VARIABLE.true in
    let n : c.args.at + 6 + 2 ≡ c.args.at + 8 = omega arith in
    subst (λ (m : ℕ). ConditionContract c.args.self.now.table.now c.args.self.now.configuration.now c.args.self.now.places.now.starts c.args.self.now.places.now.ends c.args.at (record { holds = c.is_node.result; next = m })) n (by_node c.args.self.now.table.now c.args.self.now.configuration.now c.args.self.now.places.now.starts c.args.self.now.places.now.ends c.args.at (record { value = Computed c.short_call-root.result; next = c.args.at + 6 }) (c.short_call-root.ensures.over _) low c.is_node.result c.is_node.ensures)

pub offset_bounds-self-first : goal.offset_bounds-self-first
offset_bounds-self-first c = let r = behind_room c.args.self.now.table.now c.args.self.now.configuration.now c.args.self.now.places.now.starts c.args.self.now.places.now.ends c.args.at c.evaluate-first.result c.evaluate-first.ensures c.requires in omega arith

pub bounds-self-first : goal.bounds-self-first
bounds-self-first c = let r = behind_room c.args.self.now.table.now c.args.self.now.configuration.now c.args.self.now.places.now.starts c.args.self.now.places.now.ends c.args.at c.evaluate-first.result c.evaluate-first.ensures c.requires in omega arith

pub is_node-requires-then-self-first-lt-VARIABLE : goal.is_node-requires-then-self-first-lt-VARIABLE
is_node-requires-then-self-first-lt-VARIABLE c =
    let f : SFits w64 (get_or c.args.self.now.table.now c.evaluate-first.result.next (pos 0)) = search rules in
    let low = rw (to_z-of_z f) at c.if-self-first-lt-VARIABLE.true in
    (record { term = _; is = (first_meant c.args.self.now.table.now c.args.self.now.configuration.now c.args.self.now.places.now.starts c.args.self.now.places.now.ends c.args.at c.evaluate-first.result c.evaluate-first.ensures c.requires.valuation c.requires.condition c.requires.stands).is }, record { term = _; is = (literal c.args.self.now.table.now c.args.self.now.configuration.now c.args.self.now.places.now.starts c.args.self.now.places.now.ends c.args.at c.evaluate-first.result c.evaluate-first.ensures low c.requires.valuation c.requires.condition c.requires.stands).is })

pub overflow_add-result-then-self-first-lt-VARIABLE : goal.overflow_add-result-then-self-first-lt-VARIABLE
overflow_add-result-then-self-first-lt-VARIABLE c = let r = behind_room c.args.self.now.table.now c.args.self.now.configuration.now c.args.self.now.places.now.starts c.args.self.now.places.now.ends c.args.at c.evaluate-first.result c.evaluate-first.ensures c.requires in omega arith

pub returns-then-self-first-lt-VARIABLE : goal.returns-then-self-first-lt-VARIABLE
returns-then-self-first-lt-VARIABLE c =
    let f : SFits w64 (get_or c.args.self.now.table.now c.evaluate-first.result.next (pos 0)) = search rules in
    let low = rw (to_z-of_z f) at c.if-self-first-lt-VARIABLE.true in
    by_node c.args.self.now.table.now c.args.self.now.configuration.now c.args.self.now.places.now.starts c.args.self.now.places.now.ends c.args.at c.evaluate-first.result c.evaluate-first.ensures low c.is_node-then-self-first-lt-VARIABLE.result c.is_node-then-self-first-lt-VARIABLE.ensures

pub evaluate-second-requires : goal.evaluate-second-requires
evaluate-second-requires c = record { valuation = _; expression = _; term = _; has = behind c.args.self.now.table.now c.args.self.now.configuration.now c.args.self.now.places.now.starts c.args.self.now.places.now.ends c.args.at c.evaluate-first.result c.evaluate-first.ensures c.requires.valuation c.requires.condition c.requires.stands }

pub same-requires : goal.same-requires
same-requires c = ((first_meant c.args.self.now.table.now c.args.self.now.configuration.now c.args.self.now.places.now.starts c.args.self.now.places.now.ends c.args.at c.evaluate-first.result c.evaluate-first.ensures c.requires.valuation c.requires.condition c.requires.stands).is.within, (second_meant c.args.self.now.table.now c.args.self.now.configuration.now c.args.self.now.places.now.starts c.args.self.now.places.now.ends c.args.at c.evaluate-first.result c.evaluate-first.ensures c.evaluate-second.result c.evaluate-second.ensures c.requires.valuation c.requires.condition c.requires.stands).is.within)

pub returns : goal.returns
returns c = by_values c.args.self.now.table.now c.args.self.now.configuration.now c.args.self.now.places.now.starts c.args.self.now.places.now.ends c.args.at c.evaluate-first.result c.evaluate-first.ensures c.evaluate-second.result c.evaluate-second.ensures c.same.result c.same.ensures
