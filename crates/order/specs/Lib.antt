pub mod Levels
pub mod Placing
pub mod Undo
pub mod Claims
