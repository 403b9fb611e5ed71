pub mod Entries
pub mod Made
pub mod Taking
pub mod Outcomes
pub mod Judged
pub mod Untouched
pub mod Stepping
