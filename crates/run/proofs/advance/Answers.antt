use Rattle.std.proofs.Common.{◌/◌, length, ◌∙◌, sym, arith}
use Rattle.run.proofs.RefusingLaw.{roomy, runs}
use Rattle.run.proofs.ReachedLaw.{reached_first, reached_holds, reached_more, reached_end}
use Rattle.run.proofs.advance.Goals as goal

pub loop-k-init : goal.loop-k-init
loop-k-init c =
    let a = c.args in
    let t = a.game.table.indexed in
    let g = a.game.configuration.accepted in
    let w = c.requires in
    reached_first a.game.table.words.now a.game.configuration.words.now a.budget a.limit a.out.now a.spare.now t.table g.term t.is g.is w.fits w.bounded
    (runs a.game.table.words.now a.game.configuration.words.now a.budget a.limit (length a.out.now) (length a.spare.now) t.table g.term t.is g.is w)

pub step_across-answer-requires : goal.step_across-answer-requires
step_across-answer-requires c =
    let a = c.args in
    let l = c.loop-k in
    let w = roomy (length a.game.configuration.words.now / 2) a.budget a.limit (length a.out.now) (length a.spare.now) c.requires in
    let o = l.invariant.out_long in
    let s = l.invariant.spare_long in
    (reached_holds a.game.table.words.now a.game.configuration.words.now a.budget a.limit a.out.now a.spare.now l.current.side l.current.nodes l.k l.out l.spare l.invariant, omega arith, omega arith)

pub returns-in-Break : goal.returns-in-Break
returns-in-Break c =
    let a = c.args in
    let l = c.loop-k in
    reached_end a.game.table.words.now a.game.configuration.words.now a.budget a.limit a.out.now a.spare.now l.current.side l.current.nodes l.k l.out l.spare l.invariant
    c.step_across-answer.new.out c.step_across-answer.new.spare c.step_across-answer.result c.step_across-answer.ensures c.in-Break.answer
    (sym c.judge.ensures ∙ c.in-Break.is)

pub loop-k-preserved : goal.loop-k-preserved
loop-k-preserved c =
    let a = c.args in
    let l = c.loop-k in
    let s = c.step_across-answer in
    let w = roomy (length a.game.configuration.words.now / 2) a.budget a.limit (length a.out.now) (length a.spare.now) c.requires in
    rw c.other_side.ensures
    (reached_more a.game.table.words.now a.game.configuration.words.now a.budget a.limit a.out.now a.spare.now l.current.side l.current.nodes l.k l.out l.spare l.invariant
    s.new.out s.new.spare s.result s.ensures c.in-Continue.nodes (sym c.judge.ensures ∙ c.in-Continue.is) s.auto.out s.auto.spare w.0 w.1)
