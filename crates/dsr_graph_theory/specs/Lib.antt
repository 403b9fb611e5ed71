pub mod Owners
pub mod Sides
pub mod Candidates
pub mod Lists
pub mod Causes
pub mod Excuses
pub mod Breaks
