mod Examples
pub mod Grammar
pub mod Utf8
