-- What must be believed: the four lines, the answer's text, the contract of `answer`, and the marked cases.
pub mod Input
pub mod Output
pub mod Contract
pub mod Exchange
-- What the routines below `answer` do. No part of the meaning: `proofs/` shows that together they read exactly the inputs.
pub mod Computed
