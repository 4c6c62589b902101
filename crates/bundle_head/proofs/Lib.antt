pub mod BitLaws
pub mod HeadCases
pub mod WholeCases
