pub mod Fitting
pub mod Mapped
pub mod Numbering
