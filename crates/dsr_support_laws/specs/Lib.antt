pub mod Counts
pub mod Sources
pub mod Firing
pub mod Keeping
