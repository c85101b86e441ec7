mod Sample
mod WellFormedExamples
mod LayoutExamples
mod FrameExamples
mod DuplicateExamples
mod UintExamples
mod BlockExamples
mod TextExamples
mod OptionExamples
mod RecognisedExamples
mod UriExamples
pub mod Message
pub mod Frame
pub mod Duplicates
pub mod Uint
pub mod Block
pub mod Uri
pub mod Percent
pub mod Target
