pub mod TidyUp
pub mod Examples
