pub mod DeliverCases
pub mod IssueCases
pub mod JudgeCases
pub mod MakeCases
