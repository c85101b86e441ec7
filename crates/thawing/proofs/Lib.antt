pub mod Copy
pub mod Apart
pub mod Message
pub mod Accepting
pub mod Judging
pub mod Listing
pub mod Thawed
