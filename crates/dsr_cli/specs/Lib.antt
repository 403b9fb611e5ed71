pub mod Stages
pub mod Headline
