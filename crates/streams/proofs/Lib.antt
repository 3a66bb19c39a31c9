pub mod Loads
pub mod Lines
