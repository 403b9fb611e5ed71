pub mod Fields
pub mod Ranges
pub mod Records
