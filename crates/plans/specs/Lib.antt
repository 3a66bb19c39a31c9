pub mod PlanLayer
pub mod PlanLaws
pub mod ToldLayer
