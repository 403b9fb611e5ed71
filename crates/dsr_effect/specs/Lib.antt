pub mod ValueSets
pub mod Told
pub mod Rows
pub mod Settling
pub mod Table
pub mod Contexts
pub mod AvoidedMarks
