pub mod Spans
pub mod SpanLaws
pub mod Requests
