-- What is below a node: the level and the number of its children, if it may stand where it stands.
use Rattle.std.specs.Prelude.{ℕ}
use Rattle.table.specs.Level.{Level}

pub data Below : Type 0 where
  Are : Level → ℕ → Below
  Bad : Below
