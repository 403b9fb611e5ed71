pub mod Finding
pub mod Least
pub mod Ancestors
pub mod ByNumber
pub mod Growing
pub mod Numbering
pub mod ToldNames
pub mod Wide
