-- What the words of a table and of a configuration are read as.
pub mod Reading
-- The search as a loop over frames.
pub mod Stack
-- What the routines promise.
pub mod Counted
pub mod Turns
pub mod Standing
pub mod Endings
