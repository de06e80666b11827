pub mod Loads
pub mod Names
pub mod Progress
