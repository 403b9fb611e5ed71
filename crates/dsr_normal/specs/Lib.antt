pub mod Literals
pub mod Pushing
pub mod Sizes
pub mod Telling
