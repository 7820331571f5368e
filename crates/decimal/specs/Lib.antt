-- What must be believed: numbers as text, lines of them, and the contract of the number reader.
pub mod Decimal
pub mod Number
pub mod Line
-- What the routines do. No part of the meaning: `proofs/` shows that a line is read exactly if it is the text of its numbers.
pub mod Computed
