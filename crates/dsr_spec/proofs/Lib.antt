pub mod Parted
pub mod Meant
