pub mod Program
pub mod Refusals
pub mod Spread
