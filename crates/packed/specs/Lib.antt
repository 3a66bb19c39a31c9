pub mod LastWord
pub mod LastWordLaws
