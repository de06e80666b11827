pub mod Changes
pub mod Counts
pub mod Kept
pub mod Places
pub mod Segments
pub mod Steps
