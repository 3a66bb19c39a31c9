pub mod Levelled
pub mod OutcomeLayer
pub mod LineLayer
pub mod PassLayer
