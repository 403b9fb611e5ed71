pub mod Caused
pub mod Laws
pub mod Played
