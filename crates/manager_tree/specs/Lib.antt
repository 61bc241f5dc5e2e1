pub mod Index
pub mod Shape
pub mod Tree
