pub mod LineLaws
pub mod DecimalLaws
pub mod DecimalCases
