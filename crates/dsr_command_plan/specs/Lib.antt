pub mod Levels
pub mod StuckTexts
pub mod Planned
