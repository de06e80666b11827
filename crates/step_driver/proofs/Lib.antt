pub mod Getting
pub mod Acting
pub mod Holding
pub mod Doing
pub mod Following
pub mod Serving
