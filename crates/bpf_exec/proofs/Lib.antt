pub mod Entry
pub mod Frames
pub mod Steps
pub mod Windows
