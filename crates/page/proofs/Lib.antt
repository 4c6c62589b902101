pub mod RenewLaws
pub mod CallCases
