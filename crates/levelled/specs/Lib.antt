pub mod AttemptedLayer
pub mod BuildLaws
