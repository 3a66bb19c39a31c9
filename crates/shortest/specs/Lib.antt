pub mod Shortest
pub mod OutcomeLayer
pub mod BreadthLayer
