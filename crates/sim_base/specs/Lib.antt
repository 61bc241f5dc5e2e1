pub mod Endings
pub mod Ends
pub mod Moments
pub mod NameBytes
pub mod Names
pub mod Outside
pub mod Room
