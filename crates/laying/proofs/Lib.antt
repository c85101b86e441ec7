pub mod Pieces
pub mod Laid
