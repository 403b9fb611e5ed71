pub mod Scoped
pub mod Widest
