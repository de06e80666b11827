pub mod Cause
pub mod Counted
pub mod Meant
pub mod Step
