pub mod BatchLaws
pub mod StayLaws
pub mod BatchTheorem
