pub mod Slots
pub mod Climb
