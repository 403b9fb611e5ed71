pub mod Helping
pub mod Judging
pub mod Tried
