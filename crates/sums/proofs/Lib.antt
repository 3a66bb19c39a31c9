pub mod Answers
pub mod Totals
