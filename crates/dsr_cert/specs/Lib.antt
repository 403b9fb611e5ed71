pub mod Certificates
pub mod Forms
pub mod Parts
pub mod Flaws
pub mod Searches
