pub mod Images
pub mod Puts
pub mod Resets
pub mod Steps
