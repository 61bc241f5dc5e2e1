pub mod Placed
pub mod Letters
pub mod Acting
pub mod Collecting
pub mod Together
pub mod Harvest
pub mod Worlds
