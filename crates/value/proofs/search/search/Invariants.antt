use Rattle.std.proofs.Common.{◌-◌}
use Rattle.value.proofs.SearchLaw.{Searching}
use Rattle.value.proofs.search.search.Given as goal

abbrev pub invariant-loop : goal.invariant-loop
invariant-loop l = Searching l.s l.at l.n l.key l.i (l.n - l.counter)
