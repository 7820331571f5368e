-- Laws: a number, and a line of numbers, is read exactly if its text stands there.
pub mod ListLaw
pub mod DecimalLaw
pub mod NumberLaw
pub mod SoundLaw
pub mod LineLaw
pub mod FieldsLaw
pub mod PutLaw
-- What the routines compute, step by step.
pub mod NumberTurn
pub mod PrintTurn
pub mod LineTurn
