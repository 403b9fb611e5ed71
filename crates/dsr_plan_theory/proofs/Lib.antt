pub mod Descent
pub mod Fitting
pub mod Grown
