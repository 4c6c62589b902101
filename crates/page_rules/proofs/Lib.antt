pub mod PageLaws
pub mod FewLaws
pub mod PageTheorem
