pub mod Owned
pub mod Judged
pub mod Preventing
pub mod Taking
