-- A partial value, as code answers it.
use Rattle.std.specs.Prelude.{Option, Some, None}
use Rattle.std.proofs.Math.Option as M
use Rattle.std.proofs.Math.Option.{none, some}

abbrev pub answered : {A : Type 0} → M.Option A → Option A
answered none = None
answered (some a) = Some a
