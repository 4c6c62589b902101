pub mod Answers
pub mod Read
pub mod ReadsBack
pub mod Asked
pub mod Kind
