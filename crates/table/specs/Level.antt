-- What may stand at a node: by the part of a rule in which it stands, and by what is above it.
pub data Level : Type 0 where
  Left : Level
  Right : Level
  Expression : Level
  Ground : Level
