pub mod Plans
pub mod Stuck
pub mod Taken
pub mod StuckSets
