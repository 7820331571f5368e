use Rattle.memory.proofs.PutLaw.{opens_readies}
use Rattle.memory.proofs.entries.ready.Goals as goal

pub returns-then-own-eq0 : goal.returns-then-own-eq0
returns-then-own-eq0 c = opens_readies c.args.frame.now c.args.words c.shut.new.frame c.shut.ensures

pub returns-then-is_none : goal.returns-then-is_none
returns-then-is_none c = opens_readies c.args.frame.now c.args.words c.lay_out.new.frame c.lay_out.ensures
