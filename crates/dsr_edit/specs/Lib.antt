pub mod Edits
pub mod Opened
pub mod Prepared
pub mod Puts
pub mod Sessions
pub mod Updates
