pub mod VectorLaws
pub mod PackedLaws
