pub mod StreamOf
pub mod Streams
pub mod Conversions
pub mod StreamRefusals
pub mod Peers
pub mod Duplicates
pub mod Replays
