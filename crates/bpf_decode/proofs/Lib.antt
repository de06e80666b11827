pub mod ByClass
pub mod Filling
