pub mod Clauses
pub mod Endings
pub mod Kept
pub mod Numbers
pub mod Pairs
pub mod Rounds
pub mod Taking
pub mod Trying
