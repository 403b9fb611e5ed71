pub mod Spelled
pub mod Put
pub mod Back
pub mod Rows
pub mod Once
pub mod Sole
