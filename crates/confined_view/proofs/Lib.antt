pub mod Strides
pub mod Windows
