pub mod Searching
pub mod Delivering
