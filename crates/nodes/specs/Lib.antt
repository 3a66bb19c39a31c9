pub mod Nodes
pub mod Bodies
pub mod Refusals
pub mod OutcomeLayer
