pub mod Climber
pub mod ClimberLaws
pub mod ClimberCases
