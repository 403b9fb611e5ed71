pub mod Refusing
pub mod Violated
