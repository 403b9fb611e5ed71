pub mod Atoms
pub mod Placing
