pub mod Tables
pub mod Carried
