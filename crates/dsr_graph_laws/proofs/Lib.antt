pub mod Bounding
pub mod Breaking
pub mod Excusing
pub mod Falsifying
pub mod Firsts
pub mod Listed
pub mod Literals
pub mod Sizes
