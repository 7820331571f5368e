pub mod PartLaw
pub mod CopyLaw
pub mod DecideLaw
pub mod CopyUpLaw
