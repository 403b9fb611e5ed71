pub mod Arrivals
pub mod Breadth
