pub mod RefusingLaw
pub mod SidesLaw
pub mod JudgedLaw
pub mod ReachedLaw
pub mod EndingLaw
