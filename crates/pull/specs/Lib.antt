pub mod Pull
pub mod PullLayer
