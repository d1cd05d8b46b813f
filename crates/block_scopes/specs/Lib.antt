pub mod FrameView
pub mod Standards
