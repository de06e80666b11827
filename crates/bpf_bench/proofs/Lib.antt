pub mod Ones
pub mod Spread
