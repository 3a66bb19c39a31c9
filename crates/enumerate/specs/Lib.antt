pub mod EnumerateLayer
pub mod WalkJoinLaws
pub mod OrphanLaws
pub mod EnumerateLaws
pub mod IslandFlagLaws
