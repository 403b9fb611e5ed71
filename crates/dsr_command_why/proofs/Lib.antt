pub mod Chained
pub mod Naming
pub mod Whying
pub mod Answering
