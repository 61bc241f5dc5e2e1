pub mod Cuts
pub mod Links
pub mod Parts
pub mod Reading
pub mod Search
pub mod Spans
pub mod Walk
pub mod Written
