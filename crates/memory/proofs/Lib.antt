pub mod LayoutLaw
pub mod MemoryLaw
pub mod PutLaw
