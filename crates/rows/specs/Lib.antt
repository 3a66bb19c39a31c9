pub mod Journal
pub mod SoundLayer
pub mod EntryLaws
pub mod JournalCases
pub mod Days
pub mod KindLayer
