pub mod Answers
pub mod Tables
pub mod Asked
pub mod Claims
