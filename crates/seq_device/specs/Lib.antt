pub mod Programs
pub mod Ranges
pub mod Standing
