-- What each command answers.
pub mod Check
pub mod Gen
pub mod Help
pub mod Plan
pub mod Run
pub mod Upgrade
pub mod Version
