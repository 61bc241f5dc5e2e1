pub mod Linked
pub mod Nodes
pub mod Wheel
pub mod Slots
pub mod Kept
pub mod Seen
pub mod Groups
