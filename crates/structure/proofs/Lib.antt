pub mod RiseLaws
pub mod TestLaws
pub mod WalkLaws
