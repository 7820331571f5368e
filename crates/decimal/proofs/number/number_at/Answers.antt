-- a number that ends at a comma or at the line's end
use Rattle.std.proofs.Common.{rules}
use Rattle.decimal.specs.Computed.Number.{ended_in}
use Rattle.decimal.proofs.SoundLaw.{number_is}
use Rattle.decimal.proofs.number.number_at.Goals as goal

pub returns : goal.returns
unfolding ended_in
returns c = number_is c.args.line.now c.args.at c.filter.result (search rules)
