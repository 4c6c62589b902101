pub mod Schedule
pub mod Level
