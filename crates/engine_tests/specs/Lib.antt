pub mod Elders
pub mod Pieces
