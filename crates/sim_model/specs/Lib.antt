pub mod Births
pub mod Cast
pub mod Moment
pub mod Run
pub mod SetupParts
pub mod Setups
pub mod Stepping
pub mod Whole
