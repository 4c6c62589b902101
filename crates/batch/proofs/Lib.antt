pub mod TakenLaws
pub mod DraftCases
pub mod PlanCases
pub mod PutCases
pub mod TestCases
