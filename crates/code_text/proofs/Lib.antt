pub mod CodeText
mod Examples
