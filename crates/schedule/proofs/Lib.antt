pub mod ReadyLaws
pub mod ClassLaws
pub mod WritingLaws
pub mod OrderLaws
