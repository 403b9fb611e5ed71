pub mod KnownSets
pub mod Unique
pub mod OnePlan
