pub mod FieldNames
pub mod FaultsTold
pub mod Telling
pub mod Tables
