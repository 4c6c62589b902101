pub mod IssueCases
pub mod OpeningCases
