pub mod Opened
pub mod Named
pub mod Edited
pub mod Ends
pub mod Found
