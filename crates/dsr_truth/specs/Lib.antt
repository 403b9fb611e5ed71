pub mod Only
pub mod Values
pub mod Walks
