pub mod OutsideLayer
pub mod OutsideLaws
