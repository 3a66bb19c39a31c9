pub mod Meet
pub mod MeetLayer
