use Rattle.std.proofs.Common.{arith}
use Rattle.step.proofs.WaysLaw.{way_large, fits_out, way_stepped}
use Rattle.step.proofs.write_within.Goals as goal

pub returns-then-not-fits : goal.returns-then-not-fits
returns-then-not-fits c = way_large c.args.attempt.rule.table.words.now c.args.attempt.configuration.words.now c.args.attempt.rule.number c.args.places.now.starts c.args.places.now.ends c.args.out.now c.fits.result (rw (← c.out_limit-room.ensures) c.fits.ensures) (grind arith)

pub write_successor-words-requires-clause-words_fit : goal.write_successor-words-requires-clause-words_fit
write_successor-words-requires-clause-words_fit c = fits_out c.args.attempt.rule.table.words.now c.args.attempt.configuration.words.now c.args.attempt.rule.number c.args.places.now.starts c.args.places.now.ends c.args.out.now c.fits.result (rw (← c.out_limit-room.ensures) c.fits.ensures) (grind arith)

pub returns : goal.returns
returns c = way_stepped c.args.attempt.rule.table.words.now c.args.attempt.configuration.words.now c.args.attempt.rule.number c.args.places.now.starts c.args.places.now.ends c.args.out.now c.fits.result (rw (← c.out_limit-room.ensures) c.fits.ensures) (grind arith) _ _ _ c.action.ensures c.write_successor-words.ensures
