pub mod Asked
pub mod AttemptedLayer
pub mod BuildLaws
