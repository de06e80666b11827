pub mod Deeds
pub mod Examples
pub mod Schedule
pub mod Told
