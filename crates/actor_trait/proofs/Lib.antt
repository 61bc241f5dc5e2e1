pub mod Numbers
pub mod Urgency
