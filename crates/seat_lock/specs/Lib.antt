pub mod Trails
pub mod Views
pub mod Rule
pub mod Plays
pub mod Passes
pub mod Lending
pub mod Closing
pub mod Meeting
