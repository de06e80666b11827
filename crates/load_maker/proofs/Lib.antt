pub mod Fits
pub mod Kept
pub mod Lines
pub mod Planned
pub mod Printed
pub mod Script
pub mod Sizes
pub mod Turns
