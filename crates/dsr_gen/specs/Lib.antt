pub mod Texts
pub mod Images
