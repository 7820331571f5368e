pub mod Matching
pub mod Conditions
pub mod Apply
pub mod Verdict
pub mod Among
pub mod Reasons
pub mod Right
pub mod Items
