pub mod AddCases
pub mod DeliverCases
