pub mod Relexed
pub mod Writing
