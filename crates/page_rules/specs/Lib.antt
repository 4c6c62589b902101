pub mod Page
pub mod Claims
pub mod Examples
