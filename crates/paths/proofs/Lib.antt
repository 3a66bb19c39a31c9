pub mod Cases
pub mod ForestLaws
pub mod EmitLaws
pub mod PrunedLaws
pub mod SiblingLaws
pub mod PathLaws
pub mod NodeLaws
pub mod ReadingLaws
