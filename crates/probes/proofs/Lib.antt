pub mod Events
pub mod Adding
pub mod Choosing
pub mod Lefts
pub mod Taking
pub mod Uniqueness
