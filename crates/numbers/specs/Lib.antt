pub mod Number
pub mod Fits
