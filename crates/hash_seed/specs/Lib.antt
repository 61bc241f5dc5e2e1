pub mod Draws
pub mod Keys
