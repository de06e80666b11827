pub mod Changed
pub mod Home
pub mod Lone
pub mod Same
