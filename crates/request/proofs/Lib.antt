pub mod NamingCases
