pub mod Excluding
pub mod Answered
pub mod Items
pub mod Feedless
pub mod Formed
pub mod TakenLevels
pub mod SaidLines
pub mod Valid
