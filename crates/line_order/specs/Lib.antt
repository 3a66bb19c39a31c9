pub mod LineOrderLayer
pub mod DownLaws
pub mod ColumnLaws
pub mod PackedLaws
pub mod AdjacentLaws
pub mod NumberLaws
