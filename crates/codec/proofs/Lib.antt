pub mod AnswerLaws
pub mod ReadLaws
pub mod WriteLaws
pub mod ReadsBackLaws
pub mod AccessLaws
