pub mod Renewing
pub mod Answers
