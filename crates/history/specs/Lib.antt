pub mod Encoding
pub mod ReplayLaws
pub mod EncodedLaws
pub mod EncodingCases
pub mod ReplayNumbers
