pub mod TakenNumbers
