pub mod DatedNodesLayer
pub mod DaysPassLaws
pub mod WalkedDatedLaws
