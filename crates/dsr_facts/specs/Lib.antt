pub mod Claims
pub mod Marks
