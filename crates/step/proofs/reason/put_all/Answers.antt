use Rattle.std.proofs.Common.{arith, refl, sym, w64}
use Rattle.std.proofs.lemmas.Int.{to_z_pos}
use Rattle.step.specs.declared.rule.Obstacle.TheVariants.{Left, Condition}
use Rattle.step.proofs.PuttingLaw.{putting_on}
use Rattle.step.proofs.reason.put_all.Goals as goal
use Rattle.step.proofs.reason.put_all.Goals.{in-Left, in-Condition}

pub loop-rule-preserved : goal.loop-rule-preserved
loop-rule-preserved c =
    elim c.match-obstacle.branch [
      | in-Left w ↦
          let s = rw w.in-Left.is at (c.requires.small c.loop-rule.rule (Left 0) c.loop-rule-test.true) in
          rw w.kind-is (putting_on c.loop-rule.invariant c.loop-rule-test.true c.requires.room (Left 0) (Left w.in-Left.place) (sym w.in-Left.is) _ (to_z_pos w64 w.in-Left.place (omega arith)) refl)
      | in-Condition w ↦
          let s = rw w.in-Condition.is at (c.requires.small c.loop-rule.rule (Left 0) c.loop-rule-test.true) in
          rw w.kind-is (putting_on c.loop-rule.invariant c.loop-rule-test.true c.requires.room (Left 0) (Condition w.in-Condition.number) (sym w.in-Condition.is) _ (to_z_pos w64 w.in-Condition.number (omega arith)) refl)
    ]
