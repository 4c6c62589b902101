pub mod Adding
pub mod Delivering
