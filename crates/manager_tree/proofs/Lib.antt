pub mod Built
pub mod Children
pub mod Kept
pub mod Limits
pub mod Pushed
pub mod Shapes
