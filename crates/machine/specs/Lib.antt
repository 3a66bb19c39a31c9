pub mod Machine
pub mod Calls
pub mod Simulation
pub mod State
