pub mod IslandCases
pub mod RingLaws
pub mod EntryLaws
pub mod EntryPathLaws
pub mod ScanLaws
