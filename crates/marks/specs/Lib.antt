pub mod Marking
pub mod Knowing
