pub mod Sought
pub mod Sole
pub mod Judged
pub mod Stepped
pub mod Unopened
pub mod Ended
pub mod Once
