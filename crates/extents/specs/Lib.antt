pub mod Homes
pub mod Tiles
