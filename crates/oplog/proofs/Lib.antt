pub mod HeaderLaws
pub mod FieldLaws
pub mod HeldLaws
pub mod MarkerLaws
pub mod InsertLaws
pub mod BodyLaws
