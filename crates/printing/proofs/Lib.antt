pub mod OutlineLaws
pub mod OutlineCases
pub mod PrintTheorems
