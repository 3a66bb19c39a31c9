pub mod CutLayer
pub mod CutLaws
pub mod ChainLayer
pub mod ChainLaws
pub mod ClassLaws
pub mod PositionLaws
