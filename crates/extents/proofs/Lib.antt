pub mod Cutting
pub mod Joining
pub mod Pieces
pub mod Regions
pub mod Replacing
pub mod Running
pub mod Tiling
pub mod Zeroed
