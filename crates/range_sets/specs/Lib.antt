pub mod Fit
pub mod Places
