pub mod Places
pub mod Each
pub mod Passing
pub mod Fronts
pub mod Once
pub mod Counted
pub mod Left
pub mod Marks
