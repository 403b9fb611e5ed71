pub mod Same
pub mod Counting
pub mod Steps
pub mod Laws
