pub mod BeginningLaws
pub mod IntervalLaws
pub mod ForestLaws
pub mod PartLaws
pub mod MeetingCases
