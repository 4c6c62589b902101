pub mod MarkingCases
pub mod MarkLaws
pub mod KnowingCases
