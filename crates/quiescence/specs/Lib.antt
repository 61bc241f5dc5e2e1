pub mod Rule
pub mod Counts
pub mod Hands
pub mod Answers
pub mod Learnt
pub mod Joint
pub mod Ended
pub mod Rounds
