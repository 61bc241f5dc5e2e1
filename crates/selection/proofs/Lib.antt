pub mod Dropping
pub mod Flags
pub mod Later
