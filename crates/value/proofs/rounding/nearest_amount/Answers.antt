use Prim.Native.Nat.{◌/◌, ◌%◌}
use native.Mathlib.Omega.{arith}
use Rattle.value.proofs.ShareLaw.{further, not_further, next_fits}
use Rattle.value.proofs.rounding.nearest_amount.Goals as goal

pub overflow_add-result : goal.overflow_add-result
overflow_add-result c = let h = next_fits c.args.n c.args.d (omega arith) c.requires.0 (omega arith) in omega arith

pub returns-then-d-doubled : goal.returns-then-d-doubled
returns-then-d-doubled c = further (c.args.n / c.args.d) (c.args.n % c.args.d) c.args.d (omega arith)

pub returns-else-d-doubled : goal.returns-else-d-doubled
returns-else-d-doubled c = not_further (c.args.n / c.args.d) (c.args.n % c.args.d) c.args.d (omega arith)
