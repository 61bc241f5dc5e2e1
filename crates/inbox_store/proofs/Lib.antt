pub mod Shifting
pub mod Growing
pub mod Fronts
pub mod Views
pub mod Clearing
