pub mod TermEnd
pub mod TermAt
pub mod Order
pub mod Configuration
