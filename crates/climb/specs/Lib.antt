pub mod Climb
pub mod ClimbLaws
pub mod ClimbLayer
