pub mod Meant
pub mod Spellings
