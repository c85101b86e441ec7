pub mod Frames
mod FrameSamples
pub mod Plans
pub mod Targets
