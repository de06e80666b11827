pub mod RunBytes
pub mod Runs
pub mod Sharing
