pub mod Distances
pub mod KeepLayer
