pub mod Claims
pub mod Resets
