pub mod Scripts
pub mod Shown
pub mod Lenient
pub mod Reads
