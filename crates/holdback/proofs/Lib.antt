pub mod SearchCases
pub mod HoldbackCases
