pub mod Every
pub mod Hosts
pub mod OneHistory
pub mod Order
pub mod Settled
pub mod SizedHistories
pub mod Withdrawn
