pub mod LineLaws
pub mod CellLaws
pub mod NodeLaws
pub mod PassLaws
pub mod LevelledLaws
pub mod UpLaws
pub mod LevelledCases
