use Rattle.memory.proofs.PutLaw.{inside_spare, kept_both, kept_shut}
use Rattle.memory.proofs.entries.keep.Goals as goal

pub put_own-requires : goal.put_own-requires
put_own-requires c = inside_spare c.args.frame.now c.ready.new.frame c.ready.ensures.inside c.requires.1

pub returns-then-wanted : goal.returns-then-wanted
returns-then-wanted c = kept_both c.args.frame.now c.args.words c.ready.new.frame c.put_own.new.frame c.ready.ensures c.put_own.ensures

pub returns-else-wanted : goal.returns-else-wanted
returns-else-wanted c = kept_shut c.args.frame.now c.args.words c.shut.new.frame c.shut.ensures
