pub mod Knowing
pub mod Places
pub mod Raws
pub mod Removing
