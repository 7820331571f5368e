-- What a call asks of its arguments and what they mean (`CallLaw`); the number of nodes left falls.
use mathlib.Core.Path.{◌≡◌, sym, ap, ◌∙◌, subst⁻¹}
use native.Mathlib.Omega.{arith}
use Prim.Native.Nat.{ℕ}
use lib.Dec.{lit<}
use lib.IntN.{pos}
use lib.ListN.{get_or}
use mir.Syntax.{w64}
use mir.Val.{SFits, of_z}
use borrow.Author.Rules.{rules}
use Rattle.minuska.specs.Rule.{updating}
use Rattle.value.specs.Builtin.{root_of}
use Rattle.value.specs.Evaluate.{first_term, rest_of}
use Rattle.value.specs.declared.Value.TheVariants.{Computed}
use Rattle.value.specs.declared.builtin.Root.{Root}
use Rattle.value.proofs.SignedLaw.{lit_pos}
use Rattle.value.proofs.RootLaw.{label_is}
use Rattle.value.proofs.ExpressionLaw.{is_more, no_more}
use Rattle.value.proofs.MeantLaw.{call_meant, lookup_meant, evaluated, none_first, some_first, roots_are}
use Rattle.value.proofs.CallLaw.{expression_room, the_call, code_is, first_wanted, first_is, behind_first, second_wanted, second_is, behind_second, third_wanted, third_is, call_ends}
use Rattle.value.proofs.Scope.+arguments_expression.Goals as goal

-- ---- `arguments`: the first of a list that is not empty
pub arguments-returns-then-not-wanted : goal.arguments-returns-then-not-wanted
arguments-returns-then-not-wanted t c = rw c.error.ensures (record { meant = λ ρ es xs w n. none_first _ _ _ _ _ ρ es xs (no_more c.args.self.now.table.now c.args.self.now.configuration.now c.args.self.now.places.now.starts c.args.self.now.places.now.ends c.args.at ρ es xs w (sym c.if-not-wanted.true ∙ n)) })

pub arguments-bounds-self-at : goal.arguments-bounds-self-at
arguments-bounds-self-at t c =
    let m = is_more c.args.self.now.table.now c.args.self.now.configuration.now c.args.self.now.places.now.starts c.args.self.now.places.now.ends c.args.at _ _ _ c.requires.have (sym c.if-not-wanted.false ∙ c.requires.some) in
    let h = expression_room _ _ _ _ _ _ _ _ m.first in
    omega arith

pub arguments-expression-requires : goal.arguments-expression-requires
arguments-expression-requires t c =
    let m = is_more c.args.self.now.table.now c.args.self.now.configuration.now c.args.self.now.places.now.starts c.args.self.now.places.now.ends c.args.at _ _ _ c.requires.have (sym c.if-not-wanted.false ∙ c.requires.some) in
    let d = c.decreases in
    let f : SFits w64 (get_or c.args.self.now.table.now c.args.at (pos 0)) = search rules in (
      omega arith,
      record {
        expression = record { valuation = _; expression = m.expression; term = m.term; has = m.first };
        tag = lit_pos _ 4 f.sfits (lit< tt) c.if-self-at-eq-CALL.true;
      },
    )

pub arguments-returns-then-self-at-eq-CALL : goal.arguments-returns-then-self-at-eq-CALL
arguments-returns-then-self-at-eq-CALL t c =
    record {
      meant = λ ρ es xs w n.
          let m = is_more c.args.self.now.table.now c.args.self.now.configuration.now c.args.self.now.places.now.starts c.args.self.now.places.now.ends c.args.at ρ es xs w (sym c.if-not-wanted.false ∙ n) in
          some_first _ _ _ _ _ ρ es xs m _ (c.expression.ensures.meant ρ m.expression m.term m.first);
    }

pub arguments-leaf-requires : goal.arguments-leaf-requires
arguments-leaf-requires t c =
    let m = is_more c.args.self.now.table.now c.args.self.now.configuration.now c.args.self.now.places.now.starts c.args.self.now.places.now.ends c.args.at _ _ _ c.requires.have (sym c.if-not-wanted.false ∙ c.requires.some) in
    record { config = c.args.self.now.configuration.now; expression = record { valuation = _; expression = m.expression; term = m.term; has = m.first }; tag = λ e. c.if-self-at-eq-CALL.false (ap (of_z w64) e) }

pub arguments-returns : goal.arguments-returns
arguments-returns t c =
    record {
      meant = λ ρ es xs w n.
          let m = is_more c.args.self.now.table.now c.args.self.now.configuration.now c.args.self.now.places.now.starts c.args.self.now.places.now.ends c.args.at ρ es xs w (sym c.if-not-wanted.false ∙ n) in
          some_first _ _ _ _ _ ρ es xs m _ ((c.leaf.ensures.over c.args.self.now.configuration.now).meant ρ m.expression m.term m.first);
    }

-- ---- `expression`: its arguments one after the other
pub expression-arguments-first-requires : goal.expression-arguments-first-requires
expression-arguments-first-requires t c =
    let h = expression_room c.args.self.now.table.now c.args.self.now.configuration.now c.args.self.now.places.now.starts c.args.self.now.places.now.ends c.args.at _ c.requires.expression.expression c.requires.expression.term c.requires.expression.has in
    let d = c.decreases in
    let k = the_call c.args.self.now.table.now c.args.self.now.configuration.now c.args.self.now.places.now.starts c.args.self.now.places.now.ends c.args.at _ c.requires.expression.expression c.requires.expression.term c.requires.expression.has c.requires.tag in
    (omega arith, record { valuation = _; expressions = _; terms = k.terms; have = k.have; some = first_wanted c.args.self.now.table.now c.args.self.now.configuration.now c.args.self.now.places.now.starts c.args.self.now.places.now.ends c.args.at _ c.requires.expression.expression c.requires.expression.term c.requires.expression.has c.requires.tag c.arity-count.result c.arity-count.ensures })

pub expression-arguments-second-requires : goal.expression-arguments-second-requires
expression-arguments-second-requires t c =
    let h = expression_room c.args.self.now.table.now c.args.self.now.configuration.now c.args.self.now.places.now.starts c.args.self.now.places.now.ends c.args.at _ c.requires.expression.expression c.requires.expression.term c.requires.expression.has in
    let d = c.decreases in
    let n = (first_is c.args.self.now.table.now c.args.self.now.configuration.now c.args.self.now.places.now.starts c.args.self.now.places.now.ends c.args.at _ c.requires.expression.expression c.requires.expression.term c.requires.expression.has c.requires.tag c.arity-count.result c.arity-count.ensures c.arguments-first.result c.arguments-first.ensures).next in
    (omega arith, record { valuation = _; expressions = _; terms = _; have = behind_first c.args.self.now.table.now c.args.self.now.configuration.now c.args.self.now.places.now.starts c.args.self.now.places.now.ends c.args.at _ c.requires.expression.expression c.requires.expression.term c.requires.expression.has c.requires.tag c.arity-count.result c.arity-count.ensures c.arguments-first.result c.arguments-first.ensures; some = second_wanted c.args.self.now.table.now c.args.self.now.configuration.now c.args.self.now.places.now.starts c.args.self.now.places.now.ends c.args.at _ c.requires.expression.expression c.requires.expression.term c.requires.expression.has c.requires.tag c.arity-count.result c.arity-count.ensures })

pub expression-arguments-third-requires : goal.expression-arguments-third-requires
expression-arguments-third-requires t c =
    let h = expression_room c.args.self.now.table.now c.args.self.now.configuration.now c.args.self.now.places.now.starts c.args.self.now.places.now.ends c.args.at _ c.requires.expression.expression c.requires.expression.term c.requires.expression.has in
    let d = c.decreases in
    let n = (first_is c.args.self.now.table.now c.args.self.now.configuration.now c.args.self.now.places.now.starts c.args.self.now.places.now.ends c.args.at _ c.requires.expression.expression c.requires.expression.term c.requires.expression.has c.requires.tag c.arity-count.result c.arity-count.ensures c.arguments-first.result c.arguments-first.ensures).next in
    let o = (second_is c.args.self.now.table.now c.args.self.now.configuration.now c.args.self.now.places.now.starts c.args.self.now.places.now.ends c.args.at _ c.requires.expression.expression c.requires.expression.term c.requires.expression.has c.requires.tag c.arity-count.result c.arity-count.ensures c.arguments-first.result c.arguments-first.ensures c.arguments-second.result c.arguments-second.ensures).next in
    (omega arith, record { valuation = _; expressions = _; terms = _; have = behind_second c.args.self.now.table.now c.args.self.now.configuration.now c.args.self.now.places.now.starts c.args.self.now.places.now.ends c.args.at _ c.requires.expression.expression c.requires.expression.term c.requires.expression.has c.requires.tag c.arity-count.result c.arity-count.ensures c.arguments-first.result c.arguments-first.ensures c.arguments-second.result c.arguments-second.ensures; some = third_wanted c.args.self.now.table.now c.args.self.now.configuration.now c.args.self.now.places.now.starts c.args.self.now.places.now.ends c.args.at _ c.requires.expression.expression c.requires.expression.term c.requires.expression.has c.requires.tag c.arity-count.result c.arity-count.ensures })

-- ---- a lookup, or another call
pub expression-lookup-value-requires : goal.expression-lookup-value-requires
expression-lookup-value-requires t c = (record { term = _; is = (first_is c.args.self.now.table.now c.args.self.now.configuration.now c.args.self.now.places.now.starts c.args.self.now.places.now.ends c.args.at _ c.requires.expression.expression c.requires.expression.term c.requires.expression.has c.requires.tag c.arity-count.result c.arity-count.ensures c.arguments-first.result c.arguments-first.ensures).is }, record { term = _; is = (second_is c.args.self.now.table.now c.args.self.now.configuration.now c.args.self.now.places.now.starts c.args.self.now.places.now.ends c.args.at _ c.requires.expression.expression c.requires.expression.term c.requires.expression.has c.requires.tag c.arity-count.result c.arity-count.ensures c.arguments-first.result c.arguments-first.ensures c.arguments-second.result c.arguments-second.ensures).is })

pub expression-root-a-requires : goal.expression-root-a-requires
expression-root-a-requires t c = record { term = _; is = (first_is c.args.self.now.table.now c.args.self.now.configuration.now c.args.self.now.places.now.starts c.args.self.now.places.now.ends c.args.at _ c.requires.expression.expression c.requires.expression.term c.requires.expression.has c.requires.tag c.arity-count.result c.arity-count.ensures c.arguments-first.result c.arguments-first.ensures).is }

pub expression-root-b-requires : goal.expression-root-b-requires
expression-root-b-requires t c = record { term = _; is = (second_is c.args.self.now.table.now c.args.self.now.configuration.now c.args.self.now.places.now.starts c.args.self.now.places.now.ends c.args.at _ c.requires.expression.expression c.requires.expression.term c.requires.expression.has c.requires.tag c.arity-count.result c.arity-count.ensures c.arguments-first.result c.arguments-first.ensures c.arguments-second.result c.arguments-second.ensures).is }

pub expression-root-c-requires : goal.expression-root-c-requires
expression-root-c-requires t c = record { term = _; is = (third_is c.args.self.now.table.now c.args.self.now.configuration.now c.args.self.now.places.now.starts c.args.self.now.places.now.ends c.args.at _ c.requires.expression.expression c.requires.expression.term c.requires.expression.has c.requires.tag c.arity-count.result c.arity-count.ensures c.arguments-first.result c.arguments-first.ensures c.arguments-second.result c.arguments-second.ensures c.arguments-third.result c.arguments-third.ensures).is }

pub expression-apply-requires : goal.expression-apply-requires
expression-apply-requires t c = (c.if-code-eq-LOOKUP.false, subst⁻¹ (λ (n : ℕ). n ≡ updating → ⊥) (code_is c.args.self.now.table.now c.args.self.now.configuration.now c.args.self.now.places.now.starts c.args.self.now.places.now.ends c.args.at _ c.requires.expression.expression c.requires.expression.term c.requires.expression.has c.requires.tag) (the_call c.args.self.now.table.now c.args.self.now.configuration.now c.args.self.now.places.now.starts c.args.self.now.places.now.ends c.args.at _ c.requires.expression.expression c.requires.expression.term c.requires.expression.has c.requires.tag).no_update)

pub expression-returns-then-code-eq-LOOKUP : goal.expression-returns-then-code-eq-LOOKUP
expression-returns-then-code-eq-LOOKUP t c =
    evaluated _ _ _ _ _ _ λ ρ e x w.
    lookup_meant _ _ _ _ _ ρ e x (the_call c.args.self.now.table.now c.args.self.now.configuration.now c.args.self.now.places.now.starts c.args.self.now.places.now.ends c.args.at ρ e x w c.requires.tag) (sym (code_is c.args.self.now.table.now c.args.self.now.configuration.now c.args.self.now.places.now.starts c.args.self.now.places.now.ends c.args.at ρ e x w c.requires.tag) ∙ c.if-code-eq-LOOKUP.true) _
    (c.lookup-value.ensures.is _ _ (first_is c.args.self.now.table.now c.args.self.now.configuration.now c.args.self.now.places.now.starts c.args.self.now.places.now.ends c.args.at ρ e x w c.requires.tag c.arity-count.result c.arity-count.ensures c.arguments-first.result c.arguments-first.ensures).is (second_is c.args.self.now.table.now c.args.self.now.configuration.now c.args.self.now.places.now.starts c.args.self.now.places.now.ends c.args.at ρ e x w c.requires.tag c.arity-count.result c.arity-count.ensures c.arguments-first.result c.arguments-first.ensures c.arguments-second.result c.arguments-second.ensures).is) c.lookup-value.ensures.place (call_ends c.args.self.now.table.now c.args.self.now.configuration.now c.args.self.now.places.now.starts c.args.self.now.places.now.ends c.args.at ρ e x w c.requires.tag c.arity-count.result c.arity-count.ensures c.arguments-first.result c.arguments-first.ensures c.arguments-second.result c.arguments-second.ensures c.arguments-third.result c.arguments-third.ensures)

pub expression-returns-else-code-eq-LOOKUP : goal.expression-returns-else-code-eq-LOOKUP
expression-returns-else-code-eq-LOOKUP t c =
    evaluated _ _ _ _ _ _ λ ρ e x w.
    let k = the_call c.args.self.now.table.now c.args.self.now.configuration.now c.args.self.now.places.now.starts c.args.self.now.places.now.ends c.args.at ρ e x w c.requires.tag in
    let l₁ = label_is _ _ _ (c.root-a.ensures.is (first_term k.terms) (first_is c.args.self.now.table.now c.args.self.now.configuration.now c.args.self.now.places.now.starts c.args.self.now.places.now.ends c.args.at ρ e x w c.requires.tag c.arity-count.result c.arity-count.ensures c.arguments-first.result c.arguments-first.ensures).is) in
    let l₂ = label_is _ _ _ (c.root-b.ensures.is (first_term (rest_of k.terms)) (second_is c.args.self.now.table.now c.args.self.now.configuration.now c.args.self.now.places.now.starts c.args.self.now.places.now.ends c.args.at ρ e x w c.requires.tag c.arity-count.result c.arity-count.ensures c.arguments-first.result c.arguments-first.ensures c.arguments-second.result c.arguments-second.ensures).is) in
    let l₃ = label_is _ _ _ (c.root-c.ensures.is (first_term (rest_of (rest_of k.terms))) (third_is c.args.self.now.table.now c.args.self.now.configuration.now c.args.self.now.places.now.starts c.args.self.now.places.now.ends c.args.at ρ e x w c.requires.tag c.arity-count.result c.arity-count.ensures c.arguments-first.result c.arguments-first.ensures c.arguments-second.result c.arguments-second.ensures c.arguments-third.result c.arguments-third.ensures).is) in
    call_meant _ _ _ _ _ ρ e x k (λ q. c.if-code-eq-LOOKUP.false (code_is c.args.self.now.table.now c.args.self.now.configuration.now c.args.self.now.places.now.starts c.args.self.now.places.now.ends c.args.at ρ e x w c.requires.tag ∙ q)) _
    (ap (λ (r : Root). Computed r) (c.apply.ensures ∙ ap root_of (rw (code_is c.args.self.now.table.now c.args.self.now.configuration.now c.args.self.now.places.now.starts c.args.self.now.places.now.ends c.args.at ρ e x w c.requires.tag) (roots_are k.terms _ _ _ l₁ l₂ l₃ k.code)))) (call_ends c.args.self.now.table.now c.args.self.now.configuration.now c.args.self.now.places.now.starts c.args.self.now.places.now.ends c.args.at ρ e x w c.requires.tag c.arity-count.result c.arity-count.ensures c.arguments-first.result c.arguments-first.ensures c.arguments-second.result c.arguments-second.ensures c.arguments-third.result c.arguments-third.ensures)
