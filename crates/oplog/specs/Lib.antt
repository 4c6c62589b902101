pub mod Append
pub mod Header
pub mod Places
