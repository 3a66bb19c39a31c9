pub mod Loading
pub mod Outcome
pub mod Nodes
pub mod OutcomeLaws
