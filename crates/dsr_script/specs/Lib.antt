pub mod Causes
pub mod Moves
pub mod Outside
pub mod Runs
pub mod Scripts
pub mod Statuses
