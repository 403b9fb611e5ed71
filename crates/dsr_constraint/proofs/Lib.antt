pub mod FormulaSteps
pub mod Mapped
pub mod Merged
pub mod Named
pub mod Narrowest
pub mod Negated
pub mod Pass
