pub mod Affected
pub mod Differing
pub mod Cases
