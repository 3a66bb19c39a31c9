pub mod Hops
pub mod HopsLayer
