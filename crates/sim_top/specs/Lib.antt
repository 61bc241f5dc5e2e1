pub mod Chosen
pub mod Clauses
pub mod Commands
pub mod Lines
pub mod Statuses
pub mod Tasks
pub mod Verdicts
pub mod Words
