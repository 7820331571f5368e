-- What must be believed: terms, their words, the functions, satisfaction, rules, one step, paths, the claims about the answers, and what is left in the slices.
pub mod Basics
pub mod Term
pub mod Dictionary
pub mod Word
pub mod Nearest
pub mod Function
pub mod Satisfaction
pub mod Misfit
pub mod Rule
pub mod Obstacle
pub mod Rewriting
pub mod Path
pub mod Answer
pub mod Claim
pub mod Slice
pub mod Subterm
-- Document 01's cases P1 to P12, and three of document 02, over the relations and the claims.
pub mod Marked
-- The same, computed: shown by `proofs/` to be what the files above say.
pub mod Computed
-- Bridges to code: what stands where in a slice of words. No part of the meaning.
pub mod Bridge
-- What each public routine promises, a record each.
pub mod Contract
