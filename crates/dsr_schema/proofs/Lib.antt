pub mod Descending
pub mod Lines
