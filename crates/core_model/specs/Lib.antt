pub mod Asked
pub mod Causes
pub mod Moves
pub mod Parts
pub mod Picking
pub mod Telling
pub mod Ties
