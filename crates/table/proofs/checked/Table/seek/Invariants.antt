use Rattle.minuska.specs.Bridge.Place.{RootsPassed}
use Rattle.table.proofs.checked.Table.seek.Given as goal

-- the rules at the positions so far are passed over
abbrev pub invariant-loop-i : goal.invariant-loop-i
invariant-loop-i l = RootsPassed l.self.words.now l.root l.from l.i
