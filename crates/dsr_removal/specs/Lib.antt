pub mod Rounds
pub mod Taking
pub mod Placements
pub mod Ways
pub mod Members
pub mod Refused
