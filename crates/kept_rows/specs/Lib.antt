pub mod KeptRowsLayer
pub mod SearchLaws
pub mod MaskLaws
pub mod AlikeLaws
pub mod KeptRowsLaws
pub mod KeptWalkLaws
