pub mod CountLayer
pub mod ReadyLaws
pub mod CountLaws
pub mod BlankLaws
