pub mod FallLaws
pub mod UpwardLaws
pub mod TidyLaws
pub mod ComingLaws
pub mod TidyTheorem
