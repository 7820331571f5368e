pub mod Sides
pub mod Allowed
pub mod Ending
