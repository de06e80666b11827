pub mod Further
pub mod Serving
pub mod Phases
pub mod Plans
