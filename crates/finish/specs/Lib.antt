pub mod FinishLayer
pub mod FinishLaws
