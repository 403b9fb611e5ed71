pub mod Examples
pub mod ExcusedCases
