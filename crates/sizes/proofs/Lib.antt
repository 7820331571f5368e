pub mod SizesLaw
