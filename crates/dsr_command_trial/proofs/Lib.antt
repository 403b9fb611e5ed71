pub mod Short
pub mod Tried
