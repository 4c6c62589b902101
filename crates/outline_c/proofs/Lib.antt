pub mod FitLaws
pub mod NumberCases
pub mod PageCases
