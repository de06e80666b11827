pub mod Outstanding
pub mod Places
