pub mod Powers
pub mod Sizes
pub mod Distinct
pub mod PlainLaws
pub mod StrictLaws
mod Padding
mod Examples
