pub mod Pack
pub mod Range
pub mod Unpack
