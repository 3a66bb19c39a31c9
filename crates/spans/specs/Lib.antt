pub mod Spans
pub mod UnrefusedLaws
pub mod HeldLaws
