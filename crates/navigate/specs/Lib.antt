pub mod Navigate
pub mod Cases
pub mod HeldLaws
