pub mod RankLaws
pub mod CheckLaws
pub mod NavigationLaws
pub mod LevelLaws
pub mod AcceptLaws
