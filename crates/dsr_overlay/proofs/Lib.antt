pub mod Claimed
pub mod Eights
pub mod Moved
pub mod Pages
pub mod Placed
pub mod Views
pub mod Written
