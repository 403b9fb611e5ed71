pub mod Alone
pub mod Compared
pub mod Finding
pub mod Ordering
pub mod Satisfying
pub mod Searching
