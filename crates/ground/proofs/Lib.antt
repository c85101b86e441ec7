mod Examples
pub mod Choice
pub mod Part
pub mod Table
