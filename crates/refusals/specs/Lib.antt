pub mod TestsLayer
pub mod TestsLaws
