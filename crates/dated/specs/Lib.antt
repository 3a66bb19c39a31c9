pub mod Dated
pub mod OutcomeLayer
