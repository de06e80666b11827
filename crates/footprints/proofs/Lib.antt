pub mod Natures
pub mod Passing
pub mod Ranges
