pub mod ToldTexts
pub mod Answered
pub mod Joined
