pub mod Build
pub mod BuildCases
