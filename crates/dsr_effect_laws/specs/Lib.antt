pub mod Allowed
pub mod Fitting
pub mod Judged
pub mod Leaving
