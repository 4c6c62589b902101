pub mod BodyCases
pub mod MakeCases
pub mod CopyLaws
pub mod OpenCases
