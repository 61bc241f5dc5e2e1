pub mod Inboxes
pub mod Index
pub mod Keyed
pub mod Spots
