pub mod Forms
pub mod Grouped
pub mod Lenient
pub mod Lines
pub mod Reads
