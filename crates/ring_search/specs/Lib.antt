pub mod SearchLayer
pub mod SearchLaws
pub mod TurnLaws
pub mod AnswerLaws
