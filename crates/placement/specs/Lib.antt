pub mod Placing
pub mod Plans
