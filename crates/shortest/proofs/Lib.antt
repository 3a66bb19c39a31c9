pub mod BreadthLaws
pub mod KeptLaws
pub mod ShortestLaws
pub mod ShortestCases
