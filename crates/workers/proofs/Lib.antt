pub mod Furthering
pub mod Refusals
pub mod Doing
pub mod Running
pub mod Crossing
pub mod Phased
