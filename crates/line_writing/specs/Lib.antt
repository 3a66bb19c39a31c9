pub mod WriteLayer
pub mod WriteLaws
