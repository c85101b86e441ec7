pub mod Rows
pub mod Walk
pub mod Order
pub mod First
pub mod Severe
pub mod Examples
