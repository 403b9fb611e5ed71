pub mod Told
pub mod Paired
pub mod Kinds
pub mod Graphs
pub mod Asking
