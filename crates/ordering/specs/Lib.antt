pub mod OrderingLayer
pub mod SiblingOrderLaws
pub mod OrdinalLaws
pub mod OrderedLaws
