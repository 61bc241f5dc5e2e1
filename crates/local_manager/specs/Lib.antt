pub mod Directories
pub mod Joined
pub mod Mail
pub mod Merged
pub mod Views
