pub mod Names
pub mod Passes
pub mod Jobs
pub mod Answers
pub mod Given
pub mod Turns
