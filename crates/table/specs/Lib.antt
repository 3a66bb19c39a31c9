pub mod TableLayer
pub mod TableLaws
pub mod FillLaws
