pub mod Knowing
pub mod Coming
pub mod Entering
pub mod Turning
pub mod Keeping
pub mod Gathered
pub mod Crossing
