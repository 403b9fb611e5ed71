pub mod Additions
pub mod Examples
