pub mod Chosen
pub mod Grown
