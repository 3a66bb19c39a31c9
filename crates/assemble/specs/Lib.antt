pub mod AssembledLayer
pub mod StartLaws
pub mod AssembledLaws
pub mod ShortestRowsLaws
pub mod DatedRowsLaws
