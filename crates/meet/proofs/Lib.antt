pub mod LinkLaws
pub mod MeetLaws
pub mod PassingLaws
pub mod AcceptedLaws
pub mod MeetCases
