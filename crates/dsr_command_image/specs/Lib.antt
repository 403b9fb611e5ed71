pub mod Checked
pub mod Repaired
pub mod Runs
