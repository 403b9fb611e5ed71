pub mod Counterparts
pub mod Following
pub mod Givers
pub mod Listing
pub mod Marking
pub mod Taking
