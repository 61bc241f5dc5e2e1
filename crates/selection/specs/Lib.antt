pub mod Selecting
pub mod SelectionParts
