pub mod Certified
pub mod Faults
pub mod Verified
pub mod LowLevels
pub mod Said
