pub mod DatedWalkLayer
pub mod KeptDaysLaws
