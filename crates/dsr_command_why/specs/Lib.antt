pub mod Facts
pub mod Named
pub mod Whys
pub mod Losts
