pub mod Room
pub mod Answered
pub mod OutcomeLayer
pub mod OutcomeLaws
