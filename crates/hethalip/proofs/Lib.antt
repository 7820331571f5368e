pub mod RangeLaw
pub mod UnpackLaw
pub mod ReadLaw
pub mod SaysLaw
