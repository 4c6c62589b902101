pub mod ClimbLaws
pub mod SlotLaws
pub mod SlotCases
