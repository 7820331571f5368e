-- the first number and then the others; or no number
use native.Mathlib.Omega.{arith}
use Rattle.decimal.proofs.PrintTurn.{puts_then, puts_nothing}
use Rattle.decimal.proofs.print.Text.put_all.Goals as goal

pub returns-in-Some-clause-puts : goal.returns-in-Some-clause-puts
returns-in-Some-clause-puts g c =
    rw c.in-Some.ensures.cases.0 (puts_then _ _ _ _ _ c.put.ensures.puts c.put_more.ensures.puts (omega (arith, c.put.ensures.puts.same_length, c.in-Some.ensures.cases)))

pub returns-in_default-clause-puts : goal.returns-in_default-clause-puts
returns-in_default-clause-puts g c = puts_nothing _ _ _ c.in_default.ensures.cases
