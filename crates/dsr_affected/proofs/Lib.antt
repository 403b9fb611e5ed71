pub mod Marking
pub mod Collecting
