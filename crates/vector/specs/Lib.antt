pub mod Spread
pub mod Packed
