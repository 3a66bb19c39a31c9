pub mod IndexCheck
pub mod IndexCheckLayer
