pub mod Usage
pub mod Plans
pub mod Commands
