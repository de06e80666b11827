pub mod Outcomes
pub mod Pushed
