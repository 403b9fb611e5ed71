pub mod Masks
pub mod Placed
pub mod Ranges
pub mod Written
