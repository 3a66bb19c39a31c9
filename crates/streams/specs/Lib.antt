pub mod Reading
pub mod ReadingLayer
pub mod Writing
