-- What is passed over has another key.
use Rattle.std.proofs.Common.{◌≡◌, ◌∙◌, sym, arith, rules}
use Rattle.std.proofs.Math.Logic.{inl, inr}
use Rattle.table.proofs.KeyLaw.{position_small, none_passed, passes, stops_at, all_passed}
use Rattle.table.proofs.checked.Table.seek.Goals as goal
use Rattle.table.proofs.checked.Table.seek.Goals.{then-key-root-via-then-key-root, then-key-root-via-else-key-root+then-key-eq0}

pub offset_bounds-self-ordered : goal.offset_bounds-self-ordered
offset_bounds-self-ordered c =
    let h = position_small _ _ c.args.self.indexed _ _ _ c.requires.0 c.loop-i-test.true c.ordered.ensures in
    search rules

pub bounds-self-ordered : goal.bounds-self-ordered
bounds-self-ordered c = position_small _ _ c.args.self.indexed _ _ _ c.requires.0 c.loop-i-test.true c.ordered.ensures

pub loop-i-init : goal.loop-i-init
loop-i-init c = none_passed _ _ c.args.self.indexed _ _

pub returns-then-key-root : goal.returns-then-key-root
returns-then-key-root c =
    stops_at _ _ c.args.self.indexed _ _ _ _ _ _ c.ordered.ensures c.loop-i.auto.i c.loop-i-test.true c.loop-i.invariant
    (elim c.then-key-root.branch [
      | then-key-root-via-then-key-root w ↦ inl (sym c.from-key.ensures ∙ w.if-key-root.true)
      | then-key-root-via-else-key-root+then-key-eq0 w ↦ inr (sym c.from-key.ensures ∙ w.if-key-eq0.true)
    ])

pub loop-i-preserved : goal.loop-i-preserved
loop-i-preserved c =
    passes _ _ c.args.self.indexed _ _ _ _ _ c.ordered.ensures (λ e. c.if-key-root.false (c.from-key.ensures ∙ e)) (λ e. c.if-key-eq0.false (c.from-key.ensures ∙ e)) c.loop-i.invariant

pub returns : goal.returns
returns c =
    let e : c.loop-i.i ≡ c.args.to = omega arith in
    all_passed _ _ c.args.self.indexed _ _ _ c.requires.1 (rw e at c.loop-i.invariant)
