pub mod Failing
pub mod Places
