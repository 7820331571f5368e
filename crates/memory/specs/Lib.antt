-- How a frame lies in the work area.
pub mod Layout
-- What a frame remembers.
pub mod Memory
