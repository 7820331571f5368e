-- What the walk over the nodes and the look at the keys say of the words.
use Rattle.std.proofs.Common.{◌≡◌, subst, refl, Some, None, Err, arith}
use Rattle.std.proofs.lemmas.Grind.{common_steps}
use Rattle.minuska.specs.declared.Refusal.TheVariants.{BadConfiguration}
use Rattle.term.specs.TermEnd.{GroundTermsAre, NoneMet}
use Rattle.term.proofs.CheckLaw.{read, read_fills, accepted_none, accepted_order, refused_long, refused_nowhere, refused_elsewhere, refused_order}
use Rattle.term.proofs.check_configuration.Goals as goal
use Rattle.term.proofs.check_configuration.Goals.{else-walked-via-then-walked+else-not-in_order, else-walked-via-else-walked}

pub returns-then-n-gt-MAX_CONFIGURATION_WORDS : goal.returns-then-n-gt-MAX_CONFIGURATION_WORDS
returns-then-n-gt-MAX_CONFIGURATION_WORDS c = refused_long c.args.words.now c.if-n-gt-MAX_CONFIGURATION_WORDS.true

pub returns-in_err-walked : goal.returns-in_err-walked
returns-in_err-walked c =
    let e : c.from_residual.result ≡ Err BadConfiguration = grind (arith, common_steps) in
    let n : c.ground_terms.result ≡ None = grind (arith, common_steps) in
    rw e (refused_nowhere c.args.words.now (rw n at c.ground_terms.ensures))

pub returns-then-walked-n : goal.returns-then-walked-n
returns-then-walked-n c =
    let s : c.ground_terms.result ≡ Some c.in_ok-walked.walked = grind (arith, common_steps) in
    refused_elsewhere c.args.words.now (rw s at c.ground_terms.ensures) c.if-walked-n.true

pub in_order-requires : goal.in_order-requires
in_order-requires c =
    let s : c.ground_terms.result ≡ Some c.in_ok-walked.walked = grind (arith, common_steps) in
    read_fills c.args.words.now (read c.args.words.now (rw s at c.ground_terms.ensures) c.if-walked-n.false)

pub returns-then-not-in_order : goal.returns-then-not-in_order
returns-then-not-in_order c = refused_order c.args.words.now (rw c.if-not-in_order.true at c.in_order.ensures)

pub returns : goal.returns
returns c =
    let ws = c.args.words.now in
    let s : c.ground_terms.result ≡ Some c.in_ok-walked.walked = grind (arith, common_steps) in
    let g : GroundTermsAre ws 0 1 (Some c.in_ok-walked.walked) = rw s at c.ground_terms.ensures in
    let t = read ws g c.if-walked-n.false in
    elim c.else-walked.branch [
      | else-walked-via-then-walked+else-not-in_order w ↦ accepted_order ws t c.if-n-gt-MAX_CONFIGURATION_WORDS.false (rw w.if-not-in_order.false at w.in_order.ensures)
      | else-walked-via-else-walked w ↦ accepted_none ws t c.if-n-gt-MAX_CONFIGURATION_WORDS.false (subst (NoneMet ws 0) c.if-walked-n.false (g.none c.in_ok-walked.walked refl w.if-walked.false))
    ]
