pub mod Drafts
pub mod Faults
pub mod Printing
pub mod Stored
