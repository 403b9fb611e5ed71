pub mod Ends
pub mod Faults
pub mod Machine
pub mod Reading
