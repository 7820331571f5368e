-- Each answer is one lemma of `MatchingAnswer` at the turn that is taken.
use Rattle.std.proofs.Common.{arith, refl}
use Rattle.step.proofs.MatchingLaw.{room}
use Rattle.step.proofs.MatchingAnswer.{matching_there, all_nodes, matching_first, matching_from, matched_all, matched_until, matching_on, matching_bind, bind_fits}
use Rattle.step.proofs.matching.match_left.Goals as goal
use Rattle.step.proofs.matching.match_left.Goals.{in-Same, in-Bind, in-Again}

pub loop-node-init : goal.loop-node-init
loop-node-init c = matching_there _ _ _ _ _ (matching_first _ _ _ _ _ _ _ c.clear.ensures.ends c.clear.ensures.starts) (omega arith)

pub turn_at-requires : goal.turn_at-requires
turn_at-requires c = matching_from _ _ _ _ _ c.loop-node.invariant c.requires c.args.configuration.accepted (omega (arith, c.loop-node-test.true))

pub returns-in_default : goal.returns-in_default
returns-in_default c = matched_until _ _ _ _ _ c.loop-node.invariant (omega (arith, c.loop-node-test.true)) c.requires c.args.configuration.accepted (rw c.in_default.is at c.turn_at.ensures) (omega (arith, c.loop-node.invariant.far))

pub overflow_add-j : goal.overflow_add-j
overflow_add-j c =
    let h = room (matching_from _ _ _ _ _ c.loop-node.invariant c.requires c.args.configuration.accepted (omega (arith, c.loop-node-test.true))) in
    record { fits = omega (arith, h.grounded, c.ranges.configuration) }

pub set-requires : goal.set-requires
set-requires c = bind_fits _ _ _ _ _ c.loop-node.invariant c.requires c.args.configuration.accepted (omega (arith, c.loop-node-test.true)) (rw c.in-Bind.is at c.in-Some.ensures)

pub loop-node-preserved : goal.loop-node-preserved
loop-node-preserved c =
    elim c.match-turn.branch [
      | in-Same w ↦ rw (w.places-is, w.j-is) (matching_there _ _ _ _ _ (matching_on _ _ _ _ _ c.loop-node.invariant (omega (arith, c.loop-node-test.true)) (rw w.in-Same.is at c.in-Some.ensures) (λ n o x. x)) (omega arith))
      | in-Bind w ↦
          rw (w.places-is, w.j-is, w.set.ensures.starts, w.set.ensures.ends) (matching_there _ _ _ _ _ (matching_bind _ _ _ _ _ c.loop-node.invariant (omega (arith, c.loop-node-test.true)) c.loop-node.places.starts_long c.loop-node.places.ends_long c.requires c.args.configuration.accepted (rw w.in-Bind.is at c.in-Some.ensures)) (omega arith))
      | in-Again w ↦ rw (w.places-is, w.j-is) (matching_there _ _ _ _ _ (matching_on _ _ _ _ _ c.loop-node.invariant (omega (arith, c.loop-node-test.true)) (rw w.in-Again.is at c.in-Some.ensures) (λ n o x. x)) (omega arith))
    ]

pub returns : goal.returns
returns c = let i = c.loop-node.invariant in matched_all _ _ _ _ _ i c.requires c.args.configuration.accepted (all_nodes _ _ _ _ _ i c.requires c.args.configuration.accepted refl (omega (arith, c.loop-node-test.false)))
