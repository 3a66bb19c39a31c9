pub mod Islands
pub mod Entries
pub mod EntryLayer
