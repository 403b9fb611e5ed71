pub mod Absent
pub mod SameAtoms
