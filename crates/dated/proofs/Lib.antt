pub mod DatedLaws
pub mod DatedCases
