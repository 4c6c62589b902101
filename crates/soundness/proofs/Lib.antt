pub mod MeasureCases
pub mod SoundCases
