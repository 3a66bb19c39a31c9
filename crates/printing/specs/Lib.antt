pub mod Printed
pub mod PrintedLayer
pub mod LineLaws
